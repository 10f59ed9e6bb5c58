use Rattle.json_names.specs.Inner.Names.{repeats}
use Rattle.json_walk.specs.Walk.{members_from, members_of}
use Rattle.std.proofs.Common.{◌≡◌, ◌-◌, true, length}
use Rattle.json_names.proofs.sorted.again.Given as goal

abbrev pub invariant-loop-i : goal.invariant-loop-i
invariant-loop-i l = repeats l.text (members_from (length l.text - l.i) l.text l.step) ≡ true → repeats l.text (members_of l.text l.at) ≡ true
