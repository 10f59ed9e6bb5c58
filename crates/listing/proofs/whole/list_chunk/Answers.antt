-- `listing::whole::list_chunk` meets its contract.
use Rattle.listing.proofs.DayLaws.{start-before, start-behind, start-within, start-asks, start-size}
use Rattle.listing.proofs.whole.list_chunk.Goals as goal

pub returns-then-begin-first : goal.returns-then-begin-first
returns-then-begin-first c = start-before _ _ _ _ _ c.if-begin-first.true _ _ _ _ _ c.list_rule.ensures

pub returns-then-end-begin : goal.returns-then-end-begin
returns-then-end-begin c = start-behind _ _ _ _ _ c.requires.order c.if-end-begin.true _

pub list_rule-requires-2 : goal.list_rule-requires-2
list_rule-requires-2 c = start-asks _ _ _ _ _ c.args.days.now c.requires c.if-begin-first.false c.if-end-begin.false

pub shape_of-days : goal.shape_of-days
shape_of-days c = start-size c.args.days.now _ _ c.list_rule-2.ensures.size

pub returns : goal.returns
returns c = start-within _ _ _ _ _ c.if-begin-first.false _ _ _ _ c.requires.place c.list_rule-2.ensures
