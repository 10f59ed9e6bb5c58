-- `duration::length::days` meets its contract: capped numbers give the capped sum.
use Rattle.duration.specs.Length.{days_of}
use Rattle.duration.proofs.Laws.{capped-days}
use Rattle.duration.proofs.length.days.Goals as goal

pub returns : goal.returns
unfolding days_of
returns c = record {
  is = rw (c.cap.ensures.is, c.amount-weeks.ensures.is, c.amount-days.ensures.is) (capped-days _ _);
  small = c.cap.ensures.small;
}
