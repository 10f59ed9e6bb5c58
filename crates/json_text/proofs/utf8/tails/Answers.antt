use Rattle.std.proofs.Common.{◌≡◌, true, false, arith}
use Rattle.json_text.proofs.Laws.{some-tail, tails-turn, tails-over}
use Rattle.json_text.proofs.utf8.tails.Goals as goal

pub returns-then-not-is_tail : goal.returns-then-not-is_tail
returns-then-not-is_tail c =
    let none : c.is_tail.result ≡ false = grind arith in
    rw (← c.loop.invariant, tails-turn _ _ c.loop-test.true, ← c.byte.ensures.is, ← c.is_tail.ensures, none)

pub overflow_add-i : goal.overflow_add-i
overflow_add-i c =
    let found : c.is_tail.result ≡ true = grind arith in
    omega (arith, some-tail _ _ c.is_tail.ensures found)

pub loop-preserved : goal.loop-preserved
loop-preserved c =
    let found : c.is_tail.result ≡ true = grind arith in
    rw (← c.loop.invariant, tails-turn _ _ c.loop-test.true, ← c.byte.ensures.is, ← c.is_tail.ensures, found)

pub returns : goal.returns
returns c = rw (← c.loop.invariant, tails-over _ _ c.loop-test.false)
