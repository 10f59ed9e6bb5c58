-- `property::names::read_zone` meets its contract.
use Rattle.event.specs.Properties.{read_zone}
use borrow.Author.Tests.{eq-eqb, ne_eqb}
use Rattle.property.proofs.Readings.{zone-read}
use Rattle.property.proofs.names.read_zone.Goals as goal

pub returns-then-is_null : goal.returns-then-is_null
unfolding read_zone
returns-then-is_null c = λ l. rw (← (c.is_null.ensures l), c.if-is_null.true)

pub returns-then-wrong-ne0 : goal.returns-then-wrong-ne0
unfolding read_zone
returns-then-wrong-ne0 c = λ l. rw (← (c.is_null.ensures l), c.if-is_null.false, zone-read l, ← c.filled_fault-wrong.ensures, ne_eqb _ _ c.if-wrong-ne0.true)

pub returns : goal.returns
unfolding read_zone
returns c = λ l. rw (← (c.is_null.ensures l), c.if-is_null.false, zone-read l, ← c.filled_fault-wrong.ensures, eq-eqb _ _ c.if-wrong-ne0.false)
