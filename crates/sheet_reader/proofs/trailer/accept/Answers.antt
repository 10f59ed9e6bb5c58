-- `sheet_reader::trailer::accept` meets its contract: the trailer's questions, in the order of their numbers.
use Rattle.sheet.specs.Reading.{fault_of, size_of, version_of, count_of, distance_of}
use Rattle.std.proofs.Common.{inl, inr}
use borrow.Author.Tests.{eq-eqb, le-ltb, lt-ltb, ne_eqb}
use Rattle.sheet_reader.proofs.trailer.accept.Goals as goal

pub returns-then-s-lt12 : goal.returns-then-s-lt12
unfolding fault_of size_of version_of count_of distance_of
returns-then-s-lt12 c = rw (lt-ltb _ _ c.if-s-lt12.true)

pub returns-then-get-ne1 : goal.returns-then-get-ne1
unfolding fault_of size_of version_of count_of distance_of
returns-then-get-ne1 c = rw (
  le-ltb _ _ c.if-s-lt12.false,
  ← c.get.ensures.is,
  ne_eqb _ _ c.if-get-ne1.true,
)

pub returns-then-get-ne28 : goal.returns-then-get-ne28
unfolding fault_of size_of version_of count_of distance_of
returns-then-get-ne28 c = rw (
  le-ltb _ _ c.if-s-lt12.false,
  ← c.get.ensures.is,
  eq-eqb _ _ c.if-get-ne1.false,
  ← c.get-2.ensures.is,
  ne_eqb _ _ c.if-get-ne28.true,
)

pub returns-then-distance-count : goal.returns-then-distance-count
unfolding fault_of size_of version_of count_of distance_of
returns-then-distance-count c = elim c.then-distance-count.either [
  | inl not-count ↦ rw (
    le-ltb _ _ c.if-s-lt12.false,
    ← c.get.ensures.is,
    eq-eqb _ _ c.if-get-ne1.false,
    ← c.get-2.ensures.is,
    eq-eqb _ _ c.if-get-ne28.false,
    ← c.get-count.ensures.is,
    ← c.get-distance.ensures.is,
    ne_eqb _ _ not-count,
  )
  | inr w ↦ rw (
    le-ltb _ _ c.if-s-lt12.false,
    ← c.get.ensures.is,
    eq-eqb _ _ c.if-get-ne1.false,
    ← c.get-2.ensures.is,
    eq-eqb _ _ c.if-get-ne28.false,
    ← c.get-count.ensures.is,
    ← c.get-distance.ensures.is,
    eq-eqb _ _ w.0,
    ne_eqb _ _ w.1,
  )
]

pub returns : goal.returns
unfolding fault_of size_of version_of count_of distance_of
returns c = rw (
  le-ltb _ _ c.if-s-lt12.false,
  ← c.get.ensures.is,
  eq-eqb _ _ c.if-get-ne1.false,
  ← c.get-2.ensures.is,
  eq-eqb _ _ c.if-get-ne28.false,
  ← c.get-count.ensures.is,
  ← c.get-distance.ensures.is,
  eq-eqb _ _ c.if-distance-count.false,
  eq-eqb _ _ c.if-distance-at.false,
  ← c.judge_rows.ensures,
)
