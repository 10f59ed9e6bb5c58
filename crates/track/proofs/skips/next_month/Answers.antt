-- `track::skips::next_month` meets its contract. The invariant: the months before the next one are not set.
use Rattle.track.proofs.SkipLaws.{unset-none, unset-more}
use mathlib.Core.Path.{◌≡◌, subst}
use Rattle.track.specs.Inner.Skips.{MonthsUnset}
use native.Mathlib.Omega.{arith}
use Rattle.track.proofs.skips.next_month.Goals as goal

pub loop-next-init : goal.loop-next-init
loop-next-init c = unset-none _ _ (omega (arith, c.requires.1))

pub bounds-flags-next : goal.bounds-flags-next
bounds-flags-next c = omega (arith, c.loop-next-test.true, c.requires.0)

pub returns-then-flags-next : goal.returns-then-flags-next
returns-then-flags-next c = c.loop-next.invariant

pub loop-next-preserved : goal.loop-next-preserved
loop-next-preserved c = unset-more _ _ _ c.loop-next.invariant c.loop-next-test.true c.if-flags-next.false

pub returns : goal.returns
returns c =
    let last : c.loop-next.next ≡ 13 = omega (arith, c.loop-next-test.false, c.loop-next.auto.next-end, c.requires.1) in
    subst (MonthsUnset c.args.flags.now c.args.month) last c.loop-next.invariant
