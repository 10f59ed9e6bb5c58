-- `names::filled_fault` meets its contract.
use Rattle.property.specs.Inner.Words.{filled_fault_at}
use borrow.Author.Tests.{eq-eqb, ne_eqb, lt-ltb, le-ltb}
use Rattle.property.proofs.names.filled_fault.Goals as goal

pub returns-then-wrong-ne0 : goal.returns-then-wrong-ne0
unfolding filled_fault_at
returns-then-wrong-ne0 c = rw (
  ← c.word_fault-wrong.ensures,
  ne_eqb _ _ c.if-wrong-ne0.true,
)

pub returns-then-raw-gt0 : goal.returns-then-raw-gt0
unfolding filled_fault_at
returns-then-raw-gt0 c = rw (← c.word_fault-wrong.ensures, eq-eqb _ _ c.if-wrong-ne0.false, ← c.word-raw.ensures, lt-ltb _ _ c.if-raw-gt0.true)

pub returns : goal.returns
unfolding filled_fault_at
returns c = rw (← c.word_fault-wrong.ensures, eq-eqb _ _ c.if-wrong-ne0.false, ← c.word-raw.ensures, le-ltb _ _ c.if-raw-gt0.false)
