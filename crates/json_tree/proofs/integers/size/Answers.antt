use native.Mathlib.Omega.{arith}
use mathlib.Core.Path.{sym, ◌∙◌}
use Rattle.json_text.proofs.Laws.{some-digit}
use Rattle.json_tree.proofs.Numbers.{capped, exact, decimal-more, decimal-stop}
use Rattle.json_tree.specs.Integers.{decimal}
use borrow.Author.Rules.{rules}
use Rattle.json_tree.proofs.integers.size.Goals as goal

pub loop-at-init : goal.loop-at-init
unfolding decimal
loop-at-init c = (search rules, search rules)

pub returns-then-v-gt-LARGEST : goal.returns-then-v-gt-LARGEST
returns-then-v-gt-LARGEST c = capped _ _ _ c.loop-at.invariant.0 c.if-v-gt-LARGEST.true

pub overflow_add-i : goal.overflow_add-i
overflow_add-i c = omega (arith, some-digit _ _ c.is_digit.ensures c.loop-at-test.true)

pub loop-at-smaller : goal.loop-at-smaller
loop-at-smaller c = omega (arith, some-digit _ _ c.is_digit.ensures c.loop-at-test.true)

pub loop-at-preserved : goal.loop-at-preserved
loop-at-preserved c = (
  rw (← c.loop-at.invariant.0, c.digit.ensures.is, c.byte-in-loop-at.ensures.is)
      (decimal-more c.loop-at.v c.args.text.now c.loop-at.i (omega (arith, some-digit _ _ c.is_digit.ensures c.loop-at-test.true)) (rw (← c.byte.ensures.is, ← c.is_digit.ensures) c.loop-at-test.true)),
  omega arith,
)

pub returns : goal.returns
returns c = exact _ _ (sym (decimal-stop c.loop-at.v c.args.text.now c.loop-at.i (rw (← c.byte.ensures.is, ← c.is_digit.ensures) c.loop-at-test.false)) ∙ c.loop-at.invariant.0)
