use Rattle.json_walk.proofs.Laws.{same-over, same-turn}
use Rattle.std.proofs.Common.{eq-eqb, ne_eqb}
use Rattle.json_walk.proofs.strings.same_bytes.Goals as goal

pub returns-then-byte : goal.returns-then-byte
returns-then-byte c = rw (
  ← c.loop.invariant,
  same-turn _ _ c.loop-test.true,
  ← c.byte.ensures.is,
  ← c.byte-in-loop.ensures.is,
  ne_eqb _ _ c.if-byte.true,
)

pub loop-preserved : goal.loop-preserved
loop-preserved c = rw (
  ← c.loop.invariant,
  same-turn _ _ c.loop-test.true,
  ← c.byte.ensures.is,
  ← c.byte-in-loop.ensures.is,
  eq-eqb _ _ c.if-byte.false,
  ← c.step-i.ensures,
  ← c.step-j.ensures,
)

pub returns : goal.returns
returns c = rw (
  ← c.loop.invariant,
  same-over _ _ c.loop-test.false,
)
