-- `property::vocabulary::short` meets its contract.
use Rattle.json_walk.specs.Strings.{raw_at}
use Rattle.property.specs.Inner.Vocabulary.{of_short}
use borrow.Author.Tests.{eq-eqb, ne_eqb}
use Rattle.property.proofs.vocabulary.short.Goals as goal

pub returns-then-b-eq117 : goal.returns-then-b-eq117
unfolding of_short raw_at
returns-then-b-eq117 c = rw (
  eq-eqb _ _ c.if-b-eq117.true,
  ← c.number.ensures,
)

pub returns-then-b-eq100 : goal.returns-then-b-eq100
unfolding of_short raw_at
returns-then-b-eq100 c = rw (
  ne_eqb _ _ c.if-b-eq117.false,
  eq-eqb _ _ c.if-b-eq100.true,
  ← c.number-then-b-eq100.ensures,
)

pub returns : goal.returns
unfolding of_short raw_at
returns c = rw (
  ne_eqb _ _ c.if-b-eq117.false,
  ne_eqb _ _ c.if-b-eq100.false,
  ← c.number-2.ensures,
)
