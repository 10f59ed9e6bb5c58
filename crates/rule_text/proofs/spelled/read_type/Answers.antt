-- `rule_text::spelled::read_type` meets its contract.
use mathlib.Core.Path.{sym, ◌∙◌}
use borrow.Author.Tests.{eq-eqb, ne_eqb}
use Rattle.event.specs.Rules.{read_type}
use Rattle.property.specs.Inner.Words.{word_fault_at}
use Rattle.property.proofs.Readings.{word_read}
use Rattle.rule_text.proofs.WordLaws.{type-plain}
use Rattle.rule_text.proofs.spelled.read_type.Goals as goal

pub returns-then-byte-ne34 : goal.returns-then-byte-ne34
unfolding read_type word_fault_at
returns-then-byte-ne34 c = λ l. rw (word_read _ _ l, ← c.byte.ensures.is, ne_eqb _ _ c.if-byte-ne34.true)

pub returns-then-is_type : goal.returns-then-is_type
unfolding read_type word_fault_at
returns-then-is_type c = λ l. rw (
  word_read _ _ l,
  ← c.byte.ensures.is,
  eq-eqb _ _ c.if-byte-ne34.false,
  ← c.word.ensures,
  type-plain c.args.object _ (sym c.is_type.ensures ∙ c.if-is_type.true),
  ← c.is_type.ensures,
  c.if-is_type.true,
)

pub returns-then-wrong-ne0 : goal.returns-then-wrong-ne0
unfolding read_type
returns-then-wrong-ne0 c = λ l. rw (word_read _ _ l, ← c.word_fault-wrong.ensures, ne_eqb _ _ c.if-wrong-ne0.true)

pub returns : goal.returns
unfolding read_type
returns c = λ l. rw (
  word_read _ _ l,
  ← c.word_fault-wrong.ensures,
  eq-eqb _ _ c.if-wrong-ne0.false,
  ← c.word.ensures,
  ← c.is_type.ensures,
  c.if-is_type.false,
)
