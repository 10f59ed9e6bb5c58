-- `property::vocabulary::long` meets its contract.
use Rattle.json_walk.specs.Strings.{raw_at}
use Rattle.property.specs.Inner.Vocabulary.{of_long}
use borrow.Author.Tests.{eq-eqb, ne_eqb}
use Rattle.property.proofs.vocabulary.long.Goals as goal

pub returns-then-b-eq115 : goal.returns-then-b-eq115
unfolding of_long raw_at
returns-then-b-eq115 c = rw (
  eq-eqb _ _ c.if-b-eq115.true,
  ← c.number.ensures,
)

pub returns-then-b-eq98 : goal.returns-then-b-eq98
unfolding of_long raw_at
returns-then-b-eq98 c = rw (
  ne_eqb _ _ c.if-b-eq115.false,
  eq-eqb _ _ c.if-b-eq98.true,
  ← c.number-then-b-eq98.ensures,
)

pub returns-then-b-eq101 : goal.returns-then-b-eq101
unfolding of_long raw_at
returns-then-b-eq101 c = rw (
  ne_eqb _ _ c.if-b-eq115.false,
  ne_eqb _ _ c.if-b-eq98.false,
  eq-eqb _ _ c.if-b-eq101.true,
  ← c.number-then-b-eq101.ensures,
)

pub returns-then-raw_is : goal.returns-then-raw_is
unfolding of_long raw_at
returns-then-raw_is c = rw (
  ne_eqb _ _ c.if-b-eq115.false,
  ne_eqb _ _ c.if-b-eq98.false,
  ne_eqb _ _ c.if-b-eq101.false,
  ← c.raw_is.ensures,
  c.if-raw_is.true,
)

pub returns-then-raw_is-2 : goal.returns-then-raw_is-2
unfolding of_long raw_at
returns-then-raw_is-2 c = rw (
  ne_eqb _ _ c.if-b-eq115.false,
  ne_eqb _ _ c.if-b-eq98.false,
  ne_eqb _ _ c.if-b-eq101.false,
  ← c.raw_is.ensures,
  c.if-raw_is.false,
  ← c.raw_is-2.ensures,
  c.if-raw_is-2.true,
)

pub returns-then-raw_is-3 : goal.returns-then-raw_is-3
unfolding of_long raw_at
returns-then-raw_is-3 c = rw (
  ne_eqb _ _ c.if-b-eq115.false,
  ne_eqb _ _ c.if-b-eq98.false,
  ne_eqb _ _ c.if-b-eq101.false,
  ← c.raw_is.ensures,
  c.if-raw_is.false,
  ← c.raw_is-2.ensures,
  c.if-raw_is-2.false,
  ← c.raw_is-3.ensures,
  c.if-raw_is-3.true,
)

pub returns : goal.returns
unfolding of_long raw_at
returns c = rw (
  ne_eqb _ _ c.if-b-eq115.false,
  ne_eqb _ _ c.if-b-eq98.false,
  ne_eqb _ _ c.if-b-eq101.false,
  ← c.raw_is.ensures,
  c.if-raw_is.false,
  ← c.raw_is-2.ensures,
  c.if-raw_is-2.false,
  ← c.raw_is-3.ensures,
  c.if-raw_is-3.false,
  ← c.number-2.ensures,
)
