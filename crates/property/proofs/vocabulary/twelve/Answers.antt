-- `property::vocabulary::twelve` meets its contract.
use Rattle.json_walk.specs.Strings.{raw_at}
use Rattle.property.specs.Inner.Vocabulary.{of_twelve}
use borrow.Author.Tests.{eq-eqb, ne_eqb}
use Rattle.property.proofs.vocabulary.twelve.Goals as goal

pub returns-then-b-eq102 : goal.returns-then-b-eq102
unfolding of_twelve raw_at
returns-then-b-eq102 c = rw (
  eq-eqb _ _ c.if-b-eq102.true,
  ← c.number.ensures,
)

pub returns-then-b-eq100 : goal.returns-then-b-eq100
unfolding of_twelve raw_at
returns-then-b-eq100 c = rw (
  ne_eqb _ _ c.if-b-eq102.false,
  eq-eqb _ _ c.if-b-eq100.true,
  ← c.number-then-b-eq100.ensures,
)

pub returns-then-b-eq110 : goal.returns-then-b-eq110
unfolding of_twelve raw_at
returns-then-b-eq110 c = rw (
  ne_eqb _ _ c.if-b-eq102.false,
  ne_eqb _ _ c.if-b-eq100.false,
  eq-eqb _ _ c.if-b-eq110.true,
  ← c.number-then-b-eq110.ensures,
)

pub returns-then-b-eq114 : goal.returns-then-b-eq114
unfolding of_twelve raw_at
returns-then-b-eq114 c = rw (
  ne_eqb _ _ c.if-b-eq102.false,
  ne_eqb _ _ c.if-b-eq100.false,
  ne_eqb _ _ c.if-b-eq110.false,
  eq-eqb _ _ c.if-b-eq114.true,
  ← c.number-then-b-eq114.ensures,
)

pub returns-then-raw_is : goal.returns-then-raw_is
unfolding of_twelve raw_at
returns-then-raw_is c = rw (
  ne_eqb _ _ c.if-b-eq102.false,
  ne_eqb _ _ c.if-b-eq100.false,
  ne_eqb _ _ c.if-b-eq110.false,
  ne_eqb _ _ c.if-b-eq114.false,
  ← c.raw_is.ensures,
  c.if-raw_is.true,
)

pub returns : goal.returns
unfolding of_twelve raw_at
returns c = rw (
  ne_eqb _ _ c.if-b-eq102.false,
  ne_eqb _ _ c.if-b-eq100.false,
  ne_eqb _ _ c.if-b-eq110.false,
  ne_eqb _ _ c.if-b-eq114.false,
  ← c.raw_is.ensures,
  c.if-raw_is.false,
  ← c.number-2.ensures,
)
