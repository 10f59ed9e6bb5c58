-- `digits::four` meets its contract.
use Rattle.digits.specs.Digits.{four_at}
use Rattle.digits.proofs.four.Goals as goal

pub returns : goal.returns
unfolding four_at
returns c = rw (← c.two-a.ensures.is, ← c.two-b.ensures.is)
