-- `property::dates::read_updated` meets its contract.
use Rattle.event.specs.Properties.{read_updated}
use borrow.Author.Tests.{eq-eqb, ne_eqb}
use Rattle.property.proofs.Readings.{word_read}
use Rattle.property.proofs.dates.read_updated.Goals as goal

pub returns-then-wrong-ne0 : goal.returns-then-wrong-ne0
unfolding read_updated
returns-then-wrong-ne0 c = λ l. rw (word_read _ _ l, ← c.word_fault-wrong.ensures, ne_eqb _ _ c.if-wrong-ne0.true)

pub returns-then-is_utc : goal.returns-then-is_utc
unfolding read_updated
returns-then-is_utc c = λ l. rw (word_read _ _ l, ← c.word_fault-wrong.ensures, eq-eqb _ _ c.if-wrong-ne0.false, ← c.word.ensures, ← c.is_utc.ensures, c.if-is_utc.true)

pub returns : goal.returns
unfolding read_updated
returns c = λ l. rw (word_read _ _ l, ← c.word_fault-wrong.ensures, eq-eqb _ _ c.if-wrong-ne0.false, ← c.word.ensures, ← c.is_utc.ensures, c.if-is_utc.false)
