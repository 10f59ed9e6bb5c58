-- `duration::amount::cap` meets its contract.
use mathlib.Core.Path.{sym}
use native.Mathlib.Omega.{arith}
use Rattle.duration.proofs.Laws.{capped-low, capped-high}
use Rattle.duration.proofs.amount.cap.Goals as goal

pub returns-then-n-lt-ENOUGH : goal.returns-then-n-lt-ENOUGH
returns-then-n-lt-ENOUGH c = record { is = sym (capped-low _ c.if-n-lt-ENOUGH.true); small = omega arith }

pub returns : goal.returns
returns c = record { is = sym (capped-high _ c.if-n-lt-ENOUGH.false); small = omega arith }
