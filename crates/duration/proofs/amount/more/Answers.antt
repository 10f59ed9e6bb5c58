-- `duration::amount::more` meets its contract.
use Rattle.duration.proofs.amount.more.Goals as goal

pub returns : goal.returns
returns c = rw (← c.digit.ensures) c.cap.ensures
