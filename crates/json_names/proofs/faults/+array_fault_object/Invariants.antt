-- The cycle of walks: a level less is left with each value, and what each walk has still to find is what its definition finds from the start.
use Rattle.std.proofs.Common.{◌≡◌, ◌+◌, ◌-◌, ◌*◌, ◌≤◌, length}
use Rattle.json_names.specs.Inner.Names.{any_element, fault_at}
use Rattle.json_names.specs.Inner.Walked.{any_fault}
use Rattle.json_walk.specs.Walk.{elements_from, elements_of, members_from, members_of}
use Rattle.json_names.proofs.faults.+array_fault_object.Given as goal

abbrev pub decreases-array : goal.decreases-array
decreases-array l = 2 * l.left + 1

abbrev pub decreases-fault : goal.decreases-fault
decreases-fault l = 2 * l.left

abbrev pub decreases-object : goal.decreases-object
decreases-object l = 2 * l.left + 1

abbrev pub invariant-array-loop : goal.invariant-array-loop
invariant-array-loop l = record {
  finds : any_element (λ v. fault_at l.left l.text v) (elements_from (l.end - l.counter) l.text l.step) ≡ any_element (λ v. fault_at l.left l.text v) (elements_of l.text l.at);
  entries : length l.order ≡ length l.initial.order;
  room : length l.spare ≡ length l.initial.spare;
}

abbrev pub invariant-object-loop : goal.invariant-object-loop
invariant-object-loop l = record {
  finds : any_fault (λ v. fault_at l.left l.text v) l.text (members_from (l.end - l.counter) l.text l.step) ≡ any_fault (λ v. fault_at l.left l.text v) l.text (members_of l.text l.at);
  entries : length l.order ≡ length l.initial.order;
  room : length l.spare ≡ length l.initial.spare;
  from_base : l.base ≤ l.k;
  put_down : l.k ≤ length l.order;
}
