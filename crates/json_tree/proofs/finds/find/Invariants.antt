use Rattle.std.proofs.Common.{◌≡◌, ◌-◌}
use Rattle.json_tree.specs.Inner.Members.{find_in}
use Rattle.json_walk.specs.Walk.{members_from, members_of}
use Rattle.json_tree.proofs.finds.find.Given as goal

abbrev pub invariant-loop : goal.invariant-loop
invariant-loop l = find_in l.text l.word (members_from (l.end - l.counter) l.text l.step) ≡ find_in l.text l.word (members_of l.text l.at)
