-- `property::vocabulary::seven` meets its contract.
use Rattle.json_walk.specs.Strings.{raw_at}
use Rattle.property.specs.Inner.Vocabulary.{of_seven}
use borrow.Author.Tests.{eq-eqb, ne_eqb}
use Rattle.property.proofs.vocabulary.seven.Goals as goal

pub returns-then-b-eq117 : goal.returns-then-b-eq117
unfolding of_seven raw_at
returns-then-b-eq117 c = rw (
  eq-eqb _ _ c.if-b-eq117.true,
  ← c.number.ensures,
)

pub returns-then-b-eq112 : goal.returns-then-b-eq112
unfolding of_seven raw_at
returns-then-b-eq112 c = rw (
  ne_eqb _ _ c.if-b-eq117.false,
  eq-eqb _ _ c.if-b-eq112.true,
  ← c.number-then-b-eq112.ensures,
)

pub returns-then-b-eq114 : goal.returns-then-b-eq114
unfolding of_seven raw_at
returns-then-b-eq114 c = rw (
  ne_eqb _ _ c.if-b-eq117.false,
  ne_eqb _ _ c.if-b-eq112.false,
  eq-eqb _ _ c.if-b-eq114.true,
  ← c.number-then-b-eq114.ensures,
)

pub returns-then-raw_is : goal.returns-then-raw_is
unfolding of_seven raw_at
returns-then-raw_is c = rw (
  ne_eqb _ _ c.if-b-eq117.false,
  ne_eqb _ _ c.if-b-eq112.false,
  ne_eqb _ _ c.if-b-eq114.false,
  ← c.raw_is.ensures,
  c.if-raw_is.true,
)

pub returns : goal.returns
unfolding of_seven raw_at
returns c = rw (
  ne_eqb _ _ c.if-b-eq117.false,
  ne_eqb _ _ c.if-b-eq112.false,
  ne_eqb _ _ c.if-b-eq114.false,
  ← c.raw_is.ensures,
  c.if-raw_is.false,
  ← c.number-2.ensures,
)
