-- `track::years::is_idle` meets its contract.
use Rattle.track.specs.Inner.Years.{phase_of, is_idle}
use Rattle.matcher.proofs.WalkLaws.{in-calendar}
use native.Mathlib.Nat.{mod-lt}
use native.Mathlib.Omega.{arith}
use borrow.Author.Tests.{lt-ltb, le-ltb}
use Rattle.track.proofs.years.is_idle.Goals as goal

pub returns-then-interval-lt12 : goal.returns-then-interval-lt12
unfolding is_idle
returns-then-interval-lt12 c = rw (lt-ltb _ _ c.if-interval-lt12.true)

pub period_of-period-requires : goal.period_of-period-requires
period_of-period-requires c = let b = c.requires in
    (b.week, (in-calendar _ _ b.new.day (omega (arith, b.high)), omega (arith, b.high)))

pub idle_in-requires : goal.idle_in-requires
idle_in-requires c = mod-lt _ (omega (arith, c.if-interval-lt12.false))

pub returns : goal.returns
unfolding is_idle phase_of
returns c = rw (le-ltb _ _ c.if-interval-lt12.false, ← c.period_of-period.ensures) c.idle_in.ensures
