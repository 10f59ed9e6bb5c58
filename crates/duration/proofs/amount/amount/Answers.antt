-- `duration::amount::amount` meets its contract: from i on, with n before it, the number is the same as from the start, as far as it is counted.
use Prim.Native.Nat.{◌-◌}
use mathlib.Core.Path.{refl}
use native.Mathlib.Omega.{arith}
use borrow.Author.Tests.{eq-eqb, ne_eqb}
use Rattle.duration.specs.Amount.{amount_of}
use Rattle.duration.proofs.Laws.{capped-before, before-turn, before-end, capped_same}
use Rattle.duration.proofs.amount.amount.Goals as goal

pub loop-i-init : goal.loop-i-init
unfolding amount_of
loop-i-init c = (refl, omega arith)

pub loop-i-preserved-then-is_digit : goal.loop-i-preserved-then-is_digit
loop-i-preserved-then-is_digit c = (
  rw (
    ← c.loop-i.invariant.0,
    before-turn _ _ _ _ c.loop-i-test.true,
    ← c.byte-b.ensures.is,
    ← c.is_digit.ensures,
    c.if-is_digit.true,
    c.more-n.ensures.is,
  )
      (capped-before _ _ _),
  c.more-n.ensures.small,
)

pub returns-then-upper-c : goal.returns-then-upper-c
returns-then-upper-c c = record {
  is = rw (
    ← c.loop-i.invariant.0,
    before-turn _ _ _ _ c.loop-i-test.true,
    ← c.byte-b.ensures.is,
    ← c.is_digit.ensures,
    c.if-is_digit.false,
    ← c.upper.ensures,
    eq-eqb _ _ c.if-upper-c.true,
  )
      (capped_same _ c.loop-i.invariant.1);
  small = c.loop-i.invariant.1;
}

pub loop-i-preserved : goal.loop-i-preserved
loop-i-preserved c = (
  rw (
    ← c.loop-i.invariant.0,
    before-turn _ _ _ _ c.loop-i-test.true,
    ← c.byte-b.ensures.is,
    ← c.is_digit.ensures,
    c.if-is_digit.false,
    ← c.upper.ensures,
    ne_eqb _ _ c.if-upper-c.false,
  ),
  omega arith,
)

pub returns : goal.returns
returns c = record {
  is = rw (← c.loop-i.invariant.0, before-end _ _ _ _ c.loop-i-test.false) (capped_same 0 (omega arith));
  small = omega arith;
}
