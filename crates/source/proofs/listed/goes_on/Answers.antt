-- `source::listed::goes_on` meets its contract: the test of the definition.
use Rattle.source.specs.Inner.Listed.{goes_on}
use borrow.Author.Tests.{lt-ltb, le-ltb}
use Rattle.source.proofs.listed.goes_on.Goals as goal

pub returns-then-next-day_from : goal.returns-then-next-day_from
unfolding goes_on
returns-then-next-day_from c = rw (← c.from-next.ensures, ← c.day_from.ensures, lt-ltb _ _ c.if-next-day_from.true)

pub returns-else-next-day_from : goal.returns-else-next-day_from
unfolding goes_on
returns-else-next-day_from c = rw (← c.from-next.ensures, ← c.day_from.ensures, le-ltb _ _ c.if-next-day_from.false)
