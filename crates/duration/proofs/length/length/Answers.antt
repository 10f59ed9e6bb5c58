-- `duration::length::length` meets its contract.
use borrow.Author.Tests.{lt-ltb, le-ltb, not-true, not-false}
use Rattle.duration.specs.Length.{length_of}
use Rattle.duration.proofs.length.length.Goals as goal

pub returns-then-not-is_duration : goal.returns-then-not-is_duration
unfolding length_of
returns-then-not-is_duration c = rw (← c.is_duration.ensures, not-true c.is_duration.result c.if-not-is_duration.true-raw)

pub returns-then-at-raw : goal.returns-then-at-raw
unfolding length_of
returns-then-at-raw c = rw (
  ← c.is_duration.ensures,
  not-false c.is_duration.result c.if-not-is_duration.false-raw,
  ← c.point-at.ensures,
  lt-ltb _ _ c.if-at-raw.true,
  ← c.fraction.ensures,
)

pub returns : goal.returns
unfolding length_of
returns c = rw (
  ← c.is_duration.ensures,
  not-false c.is_duration.result c.if-not-is_duration.false-raw,
  ← c.point-at.ensures,
  le-ltb _ _ c.if-at-raw.false,
  ← c.whole.ensures,
)
