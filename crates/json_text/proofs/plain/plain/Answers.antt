-- `plain` meets its contract: each turn passes one more byte of the run, and blocks pass many.
use Rattle.std.proofs.Common.{sym, arith}
use Rattle.json_text.proofs.Skip.{some-plain, plain_more, plain-stop}
use Rattle.json_text.proofs.plain.plain.Goals as goal

pub blocks-requires : goal.blocks-requires
blocks-requires c = omega (arith, some-plain _ _ c.is_plain.ensures c.loop-at-test.true)

pub overflow_add-i : goal.overflow_add-i
overflow_add-i c = omega (arith, some-plain _ _ c.is_plain.ensures c.loop-at-test.true)

pub loop-at-smaller : goal.loop-at-smaller
loop-at-smaller c = omega (arith, some-plain _ _ c.is_plain.ensures c.loop-at-test.true)

pub loop-at-preserved : goal.loop-at-preserved
loop-at-preserved c = (
  omega arith,
  rw (← c.loop-at.invariant.1) (plain_more _ _ (omega (arith, some-plain _ _ c.is_plain.ensures c.loop-at-test.true)) (rw (← c.byte.ensures.is, ← c.is_plain.ensures) c.loop-at-test.true)),
)

pub returns : goal.returns
returns c = rw (← c.loop-at.invariant.1) (sym (plain-stop _ _ (rw (← c.byte.ensures.is, ← c.is_plain.ensures) c.loop-at-test.false)))
