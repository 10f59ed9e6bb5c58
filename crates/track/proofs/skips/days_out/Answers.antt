-- `track::skips::days_out` meets its contract.
use Rattle.track.proofs.SkipLaws.{without-none, ahead-without}
use Rattle.track.specs.Inner.Skips.{Without, step_on}
use Rattle.matcher.proofs.WalkLaws.{known, asked-day}
use native.Mathlib.Omega.{arith}
use mathlib.Core.Path.{sym, subst}
use Rattle.track.proofs.skips.days_out.Goals as goal

pub period_of-period-requires : goal.period_of-period-requires
period_of-period-requires c = let a = c.requires in
    (a.week, (asked-day _ _ _ a, known _ _ _ a))

pub returns-then-n-eq0 : goal.returns-then-n-eq0
returns-then-n-eq0 c = without-none _ _

pub days_ahead-requires : goal.days_ahead-requires
days_ahead-requires c = let a = c.requires in
    ((a.week, (omega (arith, c.if-n-eq0.false), c.periods_out-n.ensures.1)), (a.day, a.high))

pub returns : goal.returns
returns c = let a = c.requires in
    subst (Without (step_on c.args.terms) c.args.x.number) (sym c.days_ahead.ensures)
    (ahead-without _ a.day a.high c.args.terms _ _ a.week c.period_of-period.ensures (omega (arith, c.if-n-eq0.false))
    c.periods_out-n.ensures.1 c.periods_out-n.ensures.0)
