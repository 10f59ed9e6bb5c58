use Rattle.json_names.specs.Inner.Order.{Covered}
use Rattle.json_walk.specs.Walk.{members_from, members_of}
use Rattle.std.proofs.Common.{◌-◌}
use Rattle.json_names.proofs.sorted.covered.Given as goal

abbrev pub invariant-loop : goal.invariant-loop
invariant-loop l = Covered l.order l.k l.last (members_from (l.end - l.counter) l.text l.step) → Covered l.order l.k l.at (members_of l.text l.at)
