-- `date_time::picture::follows` meets its contract: what is left to compare from i on is the same as at the start.
use Prim.Native.Nat.{◌-◌}
use mathlib.Core.Path.{refl, sym}
use borrow.Author.Tests.{not-true, not-false}
use Rattle.date_time.proofs.Laws.{follows-turn, follows-end, follows-short}
use Rattle.date_time.proofs.picture.follows.Goals as goal

pub returns-then-raw-picture : goal.returns-then-raw-picture
returns-then-raw-picture c = sym (follows-short _ _ c.if-raw-picture.true)

pub loop-i-init : goal.loop-i-init
loop-i-init c = (refl, c.if-raw-picture.false)

pub returns-then-not-meets : goal.returns-then-not-meets
returns-then-not-meets c = rw (
  ← c.loop-i.invariant.0,
  follows-turn _ _ _ c.loop-i-test.true c.loop-i.invariant.1,
  ← c.meets.ensures,
  not-true c.meets.result c.if-not-meets.true-raw,
)

pub loop-i-preserved : goal.loop-i-preserved
loop-i-preserved c = (
  rw (
    ← c.loop-i.invariant.0,
    follows-turn _ _ _ c.loop-i-test.true c.loop-i.invariant.1,
    ← c.meets.ensures,
    not-false c.meets.result c.if-not-meets.false-raw,
  ),
  c.loop-i.invariant.1,
)

pub returns : goal.returns
returns c = rw (← c.loop-i.invariant.0) (sym (follows-end _ _ _ c.loop-i-test.false))
