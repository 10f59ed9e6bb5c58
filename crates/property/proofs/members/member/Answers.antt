-- `property::members::member` meets its contract.
use Rattle.json_tree.specs.Inner.Members.{find_in}
use Rattle.property.proofs.Fields.{no-members}
use Rattle.property.proofs.members.member.Goals as goal

pub returns : goal.returns
unfolding find_in
returns c = rw (no-members _ _ c.if-at-text.false)
