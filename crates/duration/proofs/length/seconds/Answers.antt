-- `duration::length::seconds` meets its contract: capped numbers give the capped sum.
use Rattle.duration.specs.Length.{seconds_of}
use Rattle.duration.proofs.Laws.{capped-seconds}
use Rattle.duration.proofs.length.seconds.Goals as goal

pub returns : goal.returns
unfolding seconds_of
returns c = record {
  is = rw (c.cap.ensures.is, c.amount-hours.ensures.is, c.amount-minutes.ensures.is, c.amount-seconds.ensures.is) (capped-seconds _ _ _);
  small = c.cap.ensures.small;
}
