-- `property::texts::read_text` meets its contract.
use borrow.Author.Tests.{eq-eqb, ne_eqb}
use Rattle.event.specs.Reading.{or_wrong}
use Rattle.event.specs.Properties.{read_text}
use Rattle.property.proofs.Words.{string-text}
use Rattle.property.proofs.texts.read_text.Goals as goal

pub returns-then-byte-eq34 : goal.returns-then-byte-eq34
unfolding read_text or_wrong
returns-then-byte-eq34 c = λ l. rw (string-text l, ← c.byte.ensures.is, eq-eqb _ _ c.if-byte-eq34.true)

pub returns : goal.returns
unfolding read_text or_wrong
returns c = λ l. rw (string-text l, ← c.byte.ensures.is, ne_eqb _ _ c.if-byte-eq34.false)
