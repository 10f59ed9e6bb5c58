-- `single` meets its contract: each turn passes one more byte of the run, so what is left of the text falls.
use mathlib.Core.Path.{sym}
use native.Mathlib.Omega.{arith}
use Rattle.json_text.proofs.Skip.{some-plain, plain_more, plain-stop}
use Rattle.json_text.proofs.plain.single.Goals as goal

pub overflow_add-i : goal.overflow_add-i
overflow_add-i c = omega (arith, some-plain _ _ c.is_plain.ensures c.loop-i-test.true)

pub loop-i-smaller : goal.loop-i-smaller
loop-i-smaller c = omega (arith, some-plain _ _ c.is_plain.ensures c.loop-i-test.true)

pub loop-i-preserved : goal.loop-i-preserved
loop-i-preserved c = rw (← c.loop-i.invariant) (plain_more _ _ (omega (arith, some-plain _ _ c.is_plain.ensures c.loop-i-test.true)) (rw (← c.byte.ensures.is, ← c.is_plain.ensures) c.loop-i-test.true))

pub returns : goal.returns
returns c = rw (← c.loop-i.invariant) (sym (plain-stop _ _ (rw (← c.byte.ensures.is, ← c.is_plain.ensures) c.loop-i-test.false)))
