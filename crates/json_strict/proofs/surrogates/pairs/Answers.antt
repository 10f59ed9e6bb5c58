use Rattle.std.proofs.Math.Nat.{sub-zero}
use Rattle.json_strict.proofs.Laws.{pairs-over, pairs-turn}
use borrow.Author.Rules.{rules}
use borrow.Author.Tests.{le-leb, lt-leb}
use Rattle.json_strict.proofs.surrogates.pairs.Goals as goal

pub loop-init : goal.loop-init
loop-init c = rw sub-zero

pub returns-then-text-i : goal.returns-then-text-i
returns-then-text-i c = rw (
  ← c.loop.invariant,
  pairs-turn _ _ c.loop-test.true,
  le-leb _ _ c.if-text-i.true,
)

pub returns-in_err-i : goal.returns-in_err-i
returns-in_err-i c = rw (
  ← c.loop.invariant,
  pairs-turn _ _ c.loop-test.true,
  lt-leb _ _ c.if-text-i.false,
  ← c.escaped.ensures,
  c.in_err-i.was,
)
    (search rules)

pub loop-preserved : goal.loop-preserved
loop-preserved c = rw (
  ← c.loop.invariant,
  pairs-turn _ _ c.loop-test.true,
  lt-leb _ _ c.if-text-i.false,
  ← c.escaped.ensures,
  c.in_ok-i.was,
)

pub returns : goal.returns
returns c = rw (
  ← c.loop.invariant,
  pairs-over _ _ c.loop-test.false,
)
