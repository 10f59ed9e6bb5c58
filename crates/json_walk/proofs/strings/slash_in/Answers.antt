use Rattle.json_walk.proofs.Laws.{slashed-over, slashed-turn}
use Rattle.std.proofs.Common.{eq-eqb, ne_eqb}
use Rattle.json_walk.proofs.strings.slash_in.Goals as goal

pub returns-then-byte-eq92 : goal.returns-then-byte-eq92
returns-then-byte-eq92 c = rw (
  ← c.loop.invariant,
  slashed-turn _ _ c.loop-test.true,
  ← c.byte.ensures.is,
  eq-eqb _ _ c.if-byte-eq92.true,
)

pub loop-preserved : goal.loop-preserved
loop-preserved c = rw (
  ← c.loop.invariant,
  slashed-turn _ _ c.loop-test.true,
  ← c.byte.ensures.is,
  ne_eqb _ _ c.if-byte-eq92.false,
  ← c.step-i.ensures,
)

pub returns : goal.returns
returns c = rw (
  ← c.loop.invariant,
  slashed-over _ _ c.loop-test.false,
)
