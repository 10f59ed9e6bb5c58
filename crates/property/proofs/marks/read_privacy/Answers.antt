-- `property::marks::read_privacy` meets its contract.
use Rattle.event.specs.Properties.{read_privacy}
use borrow.Author.Tests.{eq-eqb, ne_eqb}
use Rattle.property.proofs.Readings.{word_read}
use Rattle.property.proofs.marks.read_privacy.Goals as goal

pub returns-then-wrong-ne0 : goal.returns-then-wrong-ne0
unfolding read_privacy
returns-then-wrong-ne0 c = λ l. rw (word_read _ _ l, ← c.word_fault-wrong.ensures, ne_eqb _ _ c.if-wrong-ne0.true)

pub returns : goal.returns
unfolding read_privacy
returns c = λ l. rw (word_read _ _ l, ← c.word_fault-wrong.ensures, eq-eqb _ _ c.if-wrong-ne0.false, ← c.word.ensures, ← c.privacy.ensures)
