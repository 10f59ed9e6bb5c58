-- `property::rows::fill` meets its contract.
use Rattle.property.proofs.RowLaws.{filling-start, filling-next, filling-end}
use Rattle.json_walk.proofs.Walks.{members-end, members-over}
use Rattle.property.proofs.rows.fill.Goals as goal

pub loop-init : goal.loop-init
loop-init c = filling-start _ _ _ _ c.requires.1.0 c.first-next.ensures

pub returns-in_default : goal.returns-in_default
returns-in_default c = filling-end c.loop.invariant (rw c.in_default.is (members-end _ _))

pub loop-preserved : goal.loop-preserved
loop-preserved c = filling-next
    c.requires.1.1
    c.loop-test.true
    c.in-Some.is
    c.number_of.ensures
    c.note.ensures
    c.next_member-next.ensures
    c.loop.invariant

pub returns : goal.returns
returns c = filling-end c.loop.invariant (members-over _ _ c.loop-test.false _ _)
