-- `strings::word_fault` meets its contract.
use Rattle.property.specs.Inner.Words.{word_at, word_fault_at}
use borrow.Author.Tests.{eq-eqb, ne_eqb}
use Rattle.property.proofs.Words.{slashed-nothing}
use Rattle.property.proofs.strings.word_fault.Goals as goal

pub returns-then-byte-ne34 : goal.returns-then-byte-ne34
unfolding word_at word_fault_at
returns-then-byte-ne34 c = rw (
  ← c.byte.ensures.is,
  ne_eqb _ _ c.if-byte-ne34.true,
)

pub returns-in-Ok : goal.returns-in-Ok
unfolding word_at word_fault_at
returns-in-Ok c = rw (
  ← c.byte.ensures.is,
  eq-eqb _ _ c.if-byte-ne34.false,
  ← c.string.ensures,
  c.in-Ok.is,
  ← c.has_backslash.ensures,
  c.if-has_backslash.true,
)

pub returns-in_default : goal.returns-in_default
unfolding word_at word_fault_at
returns-in_default c = rw (
  ← c.byte.ensures.is,
  eq-eqb _ _ c.if-byte-ne34.false,
  ← c.string.ensures,
  c.in-Ok.is,
  ← c.has_backslash.ensures,
  c.if-has_backslash.false,
)

pub returns-in_default-2 : goal.returns-in_default-2
unfolding word_at word_fault_at
returns-in_default-2 c = rw (
  ← c.byte.ensures.is,
  eq-eqb _ _ c.if-byte-ne34.false,
  ← c.string.ensures,
  c.in_default.is,
  slashed-nothing,
)
