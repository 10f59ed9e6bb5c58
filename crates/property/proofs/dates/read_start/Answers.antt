-- `property::dates::read_start` meets its contract.
use Rattle.event.specs.Properties.{read_start, date_time}
use borrow.Author.Tests.{eq-eqb, ne_eqb}
use Rattle.property.proofs.Readings.{word_read}
use Rattle.property.proofs.dates.read_start.Goals as goal

pub returns-then-wrong-ne0 : goal.returns-then-wrong-ne0
unfolding read_start date_time
returns-then-wrong-ne0 c = λ l. rw (word_read 0 date_time l, ← c.word_fault-wrong.ensures, ne_eqb _ _ c.if-wrong-ne0.true)

pub returns : goal.returns
unfolding read_start date_time
returns c = λ l. rw (word_read 0 date_time l, ← c.word_fault-wrong.ensures, eq-eqb _ _ c.if-wrong-ne0.false, ← c.word.ensures, ← c.local.ensures)
