-- `property::vocabulary::five` meets its contract.
use Rattle.json_walk.specs.Strings.{raw_at}
use Rattle.property.specs.Inner.Vocabulary.{of_five}
use borrow.Author.Tests.{eq-eqb, ne_eqb}
use Rattle.property.proofs.vocabulary.five.Goals as goal

pub returns-then-b-eq64 : goal.returns-then-b-eq64
unfolding of_five raw_at
returns-then-b-eq64 c = rw (
  eq-eqb _ _ c.if-b-eq64.true,
  ← c.number.ensures,
)

pub returns-then-b-eq115 : goal.returns-then-b-eq115
unfolding of_five raw_at
returns-then-b-eq115 c = rw (
  ne_eqb _ _ c.if-b-eq64.false,
  eq-eqb _ _ c.if-b-eq115.true,
  ← c.number-then-b-eq115.ensures,
)

pub returns-then-b-eq116 : goal.returns-then-b-eq116
unfolding of_five raw_at
returns-then-b-eq116 c = rw (
  ne_eqb _ _ c.if-b-eq64.false,
  ne_eqb _ _ c.if-b-eq115.false,
  eq-eqb _ _ c.if-b-eq116.true,
  ← c.number-then-b-eq116.ensures,
)

pub returns-then-b-eq117 : goal.returns-then-b-eq117
unfolding of_five raw_at
returns-then-b-eq117 c = rw (
  ne_eqb _ _ c.if-b-eq64.false,
  ne_eqb _ _ c.if-b-eq115.false,
  ne_eqb _ _ c.if-b-eq116.false,
  eq-eqb _ _ c.if-b-eq117.true,
  ← c.number-then-b-eq117.ensures,
)

pub returns-then-b-eq99 : goal.returns-then-b-eq99
unfolding of_five raw_at
returns-then-b-eq99 c = rw (
  ne_eqb _ _ c.if-b-eq64.false,
  ne_eqb _ _ c.if-b-eq115.false,
  ne_eqb _ _ c.if-b-eq116.false,
  ne_eqb _ _ c.if-b-eq117.false,
  eq-eqb _ _ c.if-b-eq99.true,
  ← c.number-then-b-eq99.ensures,
)

pub returns : goal.returns
unfolding of_five raw_at
returns c = rw (
  ne_eqb _ _ c.if-b-eq64.false,
  ne_eqb _ _ c.if-b-eq115.false,
  ne_eqb _ _ c.if-b-eq116.false,
  ne_eqb _ _ c.if-b-eq117.false,
  ne_eqb _ _ c.if-b-eq99.false,
  ← c.number-2.ensures,
)
