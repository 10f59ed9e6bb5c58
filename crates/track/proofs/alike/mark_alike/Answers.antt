-- `track::alike::mark_alike` meets its contract.
use Rattle.track.proofs.AlikeLaws.{month-kind, unset-marked, out-marked, kind-marked}
use Rattle.track.specs.Inner.Skips.{to_month_end}
use Rattle.matcher.proofs.WalkLaws.{asked-day, known}
use native.Mathlib.Omega.{arith}
use mathlib.Core.Path.{sym, ◌∙◌}
use borrow.Author.Tests.{not-true, not-false}
use Rattle.track.proofs.alike.mark_alike.Goals as goal

pub on_month-requires : goal.on_month-requires
on_month-requires c = let a = c.requires.1.1.0 in
    (a.row_length, asked-day _ _ _ a)

pub returns-then-not-on_month : goal.returns-then-not-on_month
returns-then-not-on_month c = let p = c.requires in
    record {
      marks = unset-marked _ _ p.0.0 _ p.1.1.0 _ _ p.1.1.1 (sym c.on_month.ensures ∙ not-true c.on_month.result c.if-not-on_month.true-raw);
      kept = p.1.0;
    }

pub in_step-requires : goal.in_step-requires
in_step-requires c = let a = c.requires.1.1.0 in
    (a.week, (asked-day _ _ _ a, known _ _ _ a))

pub returns-then-not-in_step : goal.returns-then-not-in_step
returns-then-not-in_step c = let p = c.requires in
    record {
      marks = out-marked _ _ p.0.0 _ p.1.1.0 _ _ p.1.1.1 (sym c.in_step.ensures ∙ not-true c.in_step.result c.if-not-in_step.true-raw);
      kept = p.1.0;
    }

pub first_weekday-weekday-requires : goal.first_weekday-weekday-requires
first_weekday-weekday-requires c = asked-day _ _ _ c.requires.1.1.0

pub keep-at-requires : goal.keep-at-requires
keep-at-requires c = let p = c.requires.1 in
    (p.1.0.row_length, (rw c.first_weekday-weekday.ensures (month-kind _ p.1.0.day (known _ _ _ p.1.0)), p.0))

pub overflow_sub-before : goal.overflow_sub-before
overflow_sub-before c = omega (arith, (asked-day _ _ _ c.requires.1.1.0).monthday_low)

pub lay-requires : goal.lay-requires
unfolding to_month_end
lay-requires c = let p = c.requires.1.1 in
    let facts = asked-day _ _ _ p.0 in
    let k = c.keep-at.ensures in
    omega (arith, k.within, k.kept.size, p.1.within, facts.monthday_low, facts.monthday_high)

pub returns : goal.returns
returns c = let p = c.requires in
    let k = c.keep-at.ensures in
    record {
      marks =
          kind-marked _ _ p.0.0 _ p.1.1.0
          (sym c.on_month.ensures ∙ not-false c.on_month.result c.if-not-on_month.false-raw)
          (sym c.in_step.ensures ∙ not-false c.in_step.result c.if-not-in_step.false-raw)
          p.0.1 _ _ (rw c.first_weekday-weekday.ensures at k) _ _ _ p.1.1.1 c.lay.ensures;
      kept = k.kept;
    }
