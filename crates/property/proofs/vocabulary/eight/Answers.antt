-- `property::vocabulary::eight` meets its contract.
use Rattle.json_walk.specs.Strings.{raw_at}
use Rattle.property.specs.Inner.Vocabulary.{of_eight}
use borrow.Author.Tests.{eq-eqb, ne_eqb}
use Rattle.property.proofs.vocabulary.eight.Goals as goal

pub returns-then-b-eq116 : goal.returns-then-b-eq116
unfolding of_eight raw_at
returns-then-b-eq116 c = rw (
  eq-eqb _ _ c.if-b-eq116.true,
  ← c.number.ensures,
)

pub returns-then-b-eq100 : goal.returns-then-b-eq100
unfolding of_eight raw_at
returns-then-b-eq100 c = rw (
  ne_eqb _ _ c.if-b-eq116.false,
  eq-eqb _ _ c.if-b-eq100.true,
  ← c.number-then-b-eq100.ensures,
)

pub returns-then-b-eq105 : goal.returns-then-b-eq105
unfolding of_eight raw_at
returns-then-b-eq105 c = rw (
  ne_eqb _ _ c.if-b-eq116.false,
  ne_eqb _ _ c.if-b-eq100.false,
  eq-eqb _ _ c.if-b-eq105.true,
  ← c.number-then-b-eq105.ensures,
)

pub returns-then-b-eq101 : goal.returns-then-b-eq101
unfolding of_eight raw_at
returns-then-b-eq101 c = rw (
  ne_eqb _ _ c.if-b-eq116.false,
  ne_eqb _ _ c.if-b-eq100.false,
  ne_eqb _ _ c.if-b-eq105.false,
  eq-eqb _ _ c.if-b-eq101.true,
  ← c.number-then-b-eq101.ensures,
)

pub returns-then-raw_is : goal.returns-then-raw_is
unfolding of_eight raw_at
returns-then-raw_is c = rw (
  ne_eqb _ _ c.if-b-eq116.false,
  ne_eqb _ _ c.if-b-eq100.false,
  ne_eqb _ _ c.if-b-eq105.false,
  ne_eqb _ _ c.if-b-eq101.false,
  ← c.raw_is.ensures,
  c.if-raw_is.true,
)

pub returns-then-raw_is-2 : goal.returns-then-raw_is-2
unfolding of_eight raw_at
returns-then-raw_is-2 c = rw (
  ne_eqb _ _ c.if-b-eq116.false,
  ne_eqb _ _ c.if-b-eq100.false,
  ne_eqb _ _ c.if-b-eq105.false,
  ne_eqb _ _ c.if-b-eq101.false,
  ← c.raw_is.ensures,
  c.if-raw_is.false,
  ← c.raw_is-2.ensures,
  c.if-raw_is-2.true,
)

pub returns : goal.returns
unfolding of_eight raw_at
returns c = rw (
  ne_eqb _ _ c.if-b-eq116.false,
  ne_eqb _ _ c.if-b-eq100.false,
  ne_eqb _ _ c.if-b-eq105.false,
  ne_eqb _ _ c.if-b-eq101.false,
  ← c.raw_is.ensures,
  c.if-raw_is.false,
  ← c.raw_is-2.ensures,
  c.if-raw_is-2.false,
  ← c.number-2.ensures,
)
