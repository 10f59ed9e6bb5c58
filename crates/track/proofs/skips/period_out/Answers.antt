-- `track::skips::period_out` meets its contract.
use Rattle.track.proofs.SkipLaws.{without-none}
use Rattle.track.proofs.SpanLaws.{period-without}
use Rattle.matcher.proofs.WalkLaws.{known, asked-day}
use mathlib.Core.Path.{sym, ◌∙◌}
use Rattle.track.proofs.skips.period_out.Goals as goal

pub in_step-requires : goal.in_step-requires
in_step-requires c = let a = c.requires in
    (a.week, (asked-day _ _ _ a, known _ _ _ a))

pub returns-then-in_step : goal.returns-then-in_step
returns-then-in_step c = without-none _ _

pub returns : goal.returns
returns c = let a = c.requires in
    period-without _ _ _ a.day a.week (sym c.in_step.ensures ∙ c.if-in_step.false) c.to_period_end.ensures
