-- `rule_text::spelled::read_skip` meets its contract.
use Rattle.event.specs.Rules.{read_skip}
use borrow.Author.Tests.{eq-eqb, ne_eqb}
use Rattle.property.proofs.Readings.{word_read}
use Rattle.rule_text.proofs.spelled.read_skip.Goals as goal

pub returns-then-wrong-ne0 : goal.returns-then-wrong-ne0
unfolding read_skip
returns-then-wrong-ne0 c = λ l. rw (word_read _ _ l, ← c.word_fault-wrong.ensures, ne_eqb _ _ c.if-wrong-ne0.true)

pub returns : goal.returns
unfolding read_skip
returns c = λ l. rw (
  word_read _ _ l,
  ← c.word_fault-wrong.ensures,
  eq-eqb _ _ c.if-wrong-ne0.false,
  ← c.word.ensures,
  ← c.skip.ensures,
)
