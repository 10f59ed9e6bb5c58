-- `duration::length::whole` meets its contract: within the limit the numbers are not capped.
use borrow.Author.Tests.{lt-ltb, le-ltb}
use Rattle.duration.specs.Length.{whole_of}
use Rattle.duration.proofs.Laws.{total-over, days-within, seconds-within}
use Rattle.duration.proofs.length.whole.Goals as goal

pub returns-then-days-seconds-gt-LIMIT : goal.returns-then-days-seconds-gt-LIMIT
unfolding whole_of
returns-then-days-seconds-gt-LIMIT c = rw (lt-ltb _ _ (total-over _ _ _ _ c.days-days.ensures.is c.seconds-seconds.ensures.is c.if-days-seconds-gt-LIMIT.true))

pub returns : goal.returns
unfolding whole_of
returns c = rw (
  ← (days-within _ _ _ c.days-days.ensures.is c.if-days-seconds-gt-LIMIT.false),
  ← (seconds-within _ _ _ c.seconds-seconds.ensures.is c.if-days-seconds-gt-LIMIT.false),
  le-ltb _ _ c.if-days-seconds-gt-LIMIT.false,
)
