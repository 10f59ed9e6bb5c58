-- `event_text::judged::is_type` meets its contract.
use Rattle.event.specs.Values.{is_text}
use borrow.Author.Tests.{eq-eqb, ne_eqb}
use Rattle.property.proofs.Words.{string-text}
use Rattle.event_text.proofs.judged.is_type.Goals as goal

pub returns-then-byte-eq34 : goal.returns-then-byte-eq34
unfolding is_text
returns-then-byte-eq34 c = λ l. rw (string-text l, ← c.byte.ensures.is, eq-eqb _ _ c.if-byte-eq34.true, ← c.word.ensures) c.is_event.ensures

pub returns-else-byte-eq34 : goal.returns-else-byte-eq34
unfolding is_text
returns-else-byte-eq34 c = λ l. rw (string-text l, ← c.byte.ensures.is, ne_eqb _ _ c.if-byte-eq34.false)
