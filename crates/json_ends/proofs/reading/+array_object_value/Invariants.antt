-- The cycle of readers: a level less is left with each value, and each loop reads on as its definition does and keeps the table of ends true.
use Rattle.std.proofs.Common.{◌≡◌, length, ◌+◌, ◌-◌, ◌*◌}
use Rattle.json_value.specs.Values.{value_at, elements_at, members_at}
use Rattle.json_value.specs.Inner.Groups.{array_at, object_at}
use Rattle.json_ends.specs.Inner.Ends.{Ends}
use Rattle.json_ends.proofs.reading.+array_object_value.Given as goal

abbrev pub decreases-array : goal.decreases-array
decreases-array l = 2 * l.left

abbrev pub decreases-object : goal.decreases-object
decreases-object l = 2 * l.left

abbrev pub decreases-value : goal.decreases-value
decreases-value l = 2 * l.left + 1

abbrev pub invariant-array-loop : goal.invariant-array-loop
invariant-array-loop l = record {
  reads : elements_at (λ v. value_at (l.left - 1) l.text v) (l.end - l.counter) l.text l.i ≡ array_at l.left l.text l.at;
  size : length l.ends ≡ length l.initial.ends;
  ends : Ends l.text l.ends;
}

abbrev pub invariant-object-loop : goal.invariant-object-loop
invariant-object-loop l = record {
  reads : members_at (λ v. value_at (l.left - 1) l.text v) (l.end - l.counter) l.text l.i ≡ object_at l.left l.text l.at;
  size : length l.ends ≡ length l.initial.ends;
  ends : Ends l.text l.ends;
}
