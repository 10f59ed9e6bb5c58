-- `replay::tallies::tally` meets its contract: what is counted, and what is to come, is the whole.
use Prim.Native.Nat.{◌+◌, ◌≤◌}
use mathlib.Core.Path.{◌≡◌}
use lib.ListN.{drop}
use Rattle.weeks.specs.Weeks.{count}
use Rattle.weeks.specs.Inner.Places.{in_class}
use Rattle.replay.specs.Inner.Numbers.{class_number}
use Rattle.replay.proofs.tallies.tally.Given as goal

abbrev pub invariant-loop-z : goal.invariant-loop-z
invariant-loop-z l = (l.n ≤ l.z-index) × (l.n + count (in_class (class_number l.fn.class)) (drop l.z-index l.p) ≡ count (in_class (class_number l.fn.class)) l.p)
