use Rattle.json_names.specs.Inner.Names.{named}
use Rattle.json_walk.specs.Strings.{raw_at}
use Rattle.json_walk.specs.Walk.{members_from, next_member_at}
use Rattle.std.proofs.Common.{◌≡◌, ◌-◌}
use Rattle.json_names.proofs.names.among.Given as goal

abbrev pub invariant-loop : goal.invariant-loop
invariant-loop l = named l.text (raw_at l.text l.name l.stop) (members_from (l.count - l.counter) l.text l.step) ≡ named l.text (raw_at l.text l.name l.stop) (members_from l.count l.text (next_member_at l.text l.at))
