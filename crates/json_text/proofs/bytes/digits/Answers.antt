use Rattle.json_text.proofs.Laws.{digits_more, digits-stop, some-digit}
use native.Mathlib.Omega.{arith}
use mathlib.Core.Path.{sym}
use Rattle.json_text.proofs.bytes.digits.Goals as goal

pub overflow_add-i : goal.overflow_add-i
overflow_add-i c = omega (arith, some-digit _ _ c.is_digit.ensures c.loop-i-test.true)

pub loop-i-smaller : goal.loop-i-smaller
loop-i-smaller c = omega (arith, some-digit _ _ c.is_digit.ensures c.loop-i-test.true)

pub loop-i-preserved : goal.loop-i-preserved
loop-i-preserved c = rw (← c.loop-i.invariant) (digits_more _ _ (omega (arith, some-digit _ _ c.is_digit.ensures c.loop-i-test.true)) (rw (← c.byte.ensures.is, ← c.is_digit.ensures) c.loop-i-test.true))

pub returns : goal.returns
returns c = rw (← c.loop-i.invariant) (sym (digits-stop _ _ (rw (← c.byte.ensures.is, ← c.is_digit.ensures) c.loop-i-test.false)))
