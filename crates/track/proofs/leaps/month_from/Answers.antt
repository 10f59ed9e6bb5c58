-- `track::leaps::month_from` meets its contract. The invariant: the month begins no later.
use Prim.Native.Nat.{ℕ, ◌≤◌}
use mathlib.Core.Path.{◌≡◌, subst}
use Rattle.gregorian.specs.Month.{month_start}
use native.Mathlib.Omega.{arith}
use Rattle.track.proofs.LeapLaws.{month-holds-day, december-holds-day}
use Rattle.track.proofs.leaps.month_from.Goals as goal

pub returns-then-r-month_start : goal.returns-then-r-month_start
returns-then-r-month_start c =
    month-holds-day _ _ _ (omega (arith, c.loop-m.auto.m, c.requires.0.0)) (omega (arith, c.loop-m-test.true)) c.loop-m.invariant
    (omega (arith, c.month_start.ensures, c.if-r-month_start.true))

pub loop-m-preserved : goal.loop-m-preserved
loop-m-preserved c = omega (arith, c.month_start.ensures, c.if-r-month_start.false)

pub returns : goal.returns
returns c =
    let last : c.loop-m.m ≡ 12 = omega (arith, c.loop-m-test.false, c.loop-m.auto.m-end, c.requires.0.1) in
    december-holds-day _ _ (subst (λ (n : ℕ). month_start c.args.year n ≤ c.args.r) last c.loop-m.invariant) c.requires.1.1
