-- `duration::length::fraction` meets its contract: within the limit the numbers are not capped.
use borrow.Author.Tests.{le-leb, lt-leb, not-true, not-false}
use Rattle.duration.specs.Length.{fraction_of}
use Rattle.duration.proofs.Laws.{total-reaches, total-below, no_fraction}
use Rattle.duration.proofs.length.fraction.Goals as goal

pub returns-then-end-from : goal.returns-then-end-from
unfolding fraction_of
returns-then-end-from c = rw (← c.requires.0, no_fraction _ _ _ c.if-end-from.true)

pub returns-then-not-legal_fraction : goal.returns-then-not-legal_fraction
unfolding fraction_of
returns-then-not-legal_fraction c = rw (
  ← c.requires.0,
  ← c.legal_fraction.ensures,
  not-true c.legal_fraction.result c.if-not-legal_fraction.true-raw,
)

pub returns-then-days-seconds-ge-LIMIT : goal.returns-then-days-seconds-ge-LIMIT
unfolding fraction_of
returns-then-days-seconds-ge-LIMIT c = rw (
  ← c.requires.0,
  ← c.legal_fraction.ensures,
  not-false c.legal_fraction.result c.if-not-legal_fraction.false-raw,
  le-leb _ _ (total-reaches _ _ _ _ c.days-days.ensures.is c.seconds-seconds.ensures.is c.if-days-seconds-ge-LIMIT.true),
)

pub returns : goal.returns
unfolding fraction_of
returns c = rw (
  ← c.requires.0,
  ← c.legal_fraction.ensures,
  not-false c.legal_fraction.result c.if-not-legal_fraction.false-raw,
  lt-leb _ _ (total-below _ _ _ _ c.days-days.ensures.is c.seconds-seconds.ensures.is c.if-days-seconds-ge-LIMIT.false),
)
