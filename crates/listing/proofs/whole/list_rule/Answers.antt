-- `listing::whole::list_rule` meets its contract.
use Rattle.listing.proofs.DayLaws.{rule-none, rule-stops, rule-ends}
use Rattle.listing.proofs.whole.list_rule.Goals as goal

pub returns-then-to-from : goal.returns-then-to-from
returns-then-to-from c = let p = c.requires in
    rule-none _ _ _ _ _ _ c.earlier-to.ensures p.1 c.if-to-from.true p.0.order _ _ p.0.place

pub returns-then-listed-to : goal.returns-then-listed-to
returns-then-listed-to c = rule-stops _ _ _ _ _ _ c.earlier-to.ensures c.requires.1 _ _ _ _ _ c.list_days-listed.ensures c.if-listed-to.true c.if-to-from.false

pub returns : goal.returns
returns c = rule-ends _ _ _ _ _ _ c.earlier-to.ensures c.requires.1 _ _ _ _ _ c.list_days-listed.ensures c.if-listed-to.false
