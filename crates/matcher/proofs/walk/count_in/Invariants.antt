-- `matcher::walk::count_in` meets its contract. The invariant: what was found, and what the days left hold, make the whole.
use Prim.Native.Nat.{◌-◌}
use Rattle.matcher.specs.Inner.Walk.{stays_on_by}
use Rattle.matcher.proofs.WalkLaws.{Counting}
use Rattle.matcher.proofs.walk.count_in.Given as goal

abbrev pub invariant-loop : goal.invariant-loop
invariant-loop l = Counting (stays_on_by l.flags l.inyear) l.initial.x.number l.n l.x (l.n - l.counter) l.found
