-- `property::vocabulary::number_of` meets its contract.
use Rattle.property.specs.Inner.Vocabulary.{number_at, number_by}
use borrow.Author.Tests.{eq-eqb, le-ltb, lt-ltb, ne_eqb}
use Rattle.property.proofs.vocabulary.number_of.Goals as goal

pub returns-then-n-lt5 : goal.returns-then-n-lt5
unfolding number_at number_by
returns-then-n-lt5 c = rw (
  ← c.inside-n.ensures,
  ← c.step.ensures,
  ← c.byte-b.ensures.is,
  lt-ltb _ _ c.if-n-lt5.true,
  ← c.short.ensures,
)

pub returns-then-n-eq5 : goal.returns-then-n-eq5
unfolding number_at number_by
returns-then-n-eq5 c = rw (
  ← c.inside-n.ensures,
  ← c.step.ensures,
  ← c.byte-b.ensures.is,
  le-ltb _ _ c.if-n-lt5.false,
  eq-eqb _ _ c.if-n-eq5.true,
  ← c.five.ensures,
)

pub returns-then-n-lt8 : goal.returns-then-n-lt8
unfolding number_at number_by
returns-then-n-lt8 c = rw (
  ← c.inside-n.ensures,
  ← c.step.ensures,
  ← c.byte-b.ensures.is,
  le-ltb _ _ c.if-n-lt5.false,
  ne_eqb _ _ c.if-n-eq5.false,
  lt-ltb _ _ c.if-n-lt8.true,
  ← c.seven.ensures,
)

pub returns-then-n-eq8 : goal.returns-then-n-eq8
unfolding number_at number_by
returns-then-n-eq8 c = rw (
  ← c.inside-n.ensures,
  ← c.step.ensures,
  ← c.byte-b.ensures.is,
  le-ltb _ _ c.if-n-lt5.false,
  ne_eqb _ _ c.if-n-eq5.false,
  le-ltb _ _ c.if-n-lt8.false,
  eq-eqb _ _ c.if-n-eq8.true,
  ← c.eight.ensures,
)

pub returns-then-n-lt13 : goal.returns-then-n-lt13
unfolding number_at number_by
returns-then-n-lt13 c = rw (
  ← c.inside-n.ensures,
  ← c.step.ensures,
  ← c.byte-b.ensures.is,
  le-ltb _ _ c.if-n-lt5.false,
  ne_eqb _ _ c.if-n-eq5.false,
  le-ltb _ _ c.if-n-lt8.false,
  ne_eqb _ _ c.if-n-eq8.false,
  lt-ltb _ _ c.if-n-lt13.true,
  ← c.twelve.ensures,
)

pub returns : goal.returns
unfolding number_at number_by
returns c = rw (
  ← c.inside-n.ensures,
  ← c.step.ensures,
  ← c.byte-b.ensures.is,
  le-ltb _ _ c.if-n-lt5.false,
  ne_eqb _ _ c.if-n-eq5.false,
  le-ltb _ _ c.if-n-lt8.false,
  ne_eqb _ _ c.if-n-eq8.false,
  le-ltb _ _ c.if-n-lt13.false,
  ← c.long.ensures,
)
