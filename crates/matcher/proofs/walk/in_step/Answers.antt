-- `matcher::walk::in_step` meets its contract; a period before the start's has the difference 0.
use Rattle.matcher.proofs.WalkLaws.{step-each, step-first, step-never, step-later}
use Rattle.matcher.proofs.walk.in_step.Goals as goal

pub returns-then-interval-eq1 : goal.returns-then-interval-eq1
returns-then-interval-eq1 c = step-each _ _ c.if-interval-eq1.true

pub returns-then-later-eq0 : goal.returns-then-later-eq0
returns-then-later-eq0 c = step-first _ _ _ _ c.period_of-period.ensures c.saturating_sub-later.ensures c.if-later-eq0.true

pub returns-then-interval-ne0 : goal.returns-then-interval-ne0
returns-then-interval-ne0 c = step-later _ _ _ _ c.period_of-period.ensures c.saturating_sub-later.ensures _ c.from.ensures

pub returns-else-interval-ne0 : goal.returns-else-interval-ne0
returns-else-interval-ne0 c =
    step-never _ _ _ _ c.period_of-period.ensures c.saturating_sub-later.ensures c.if-later-eq0.false c.if-interval-ne0.false
