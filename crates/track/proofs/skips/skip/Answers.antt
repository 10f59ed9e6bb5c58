-- `track::skips::skip` meets its contract.
use Rattle.track.proofs.SkipLaws.{skip-out-of-step, skip-month}
use mathlib.Core.Path.{refl}
use Rattle.track.proofs.skips.skip.Goals as goal

pub period_out-requires : goal.period_out-requires
period_out-requires c = let a = c.requires in
    record { row_length = refl; week = a.week; day = a.day; low = a.low; high = a.high }

pub returns-then-is_carried : goal.returns-then-is_carried
returns-then-is_carried c = skip-out-of-step _ _ _ _ c.period_out.ensures

pub days_out-out-requires : goal.days_out-out-requires
days_out-out-requires c = let a = c.requires in
    record { row_length = refl; week = a.week; day = a.day; low = a.low; high = a.high }

pub returns-then-out-gt0 : goal.returns-then-out-gt0
returns-then-out-gt0 c = skip-out-of-step _ _ _ _ c.days_out-out.ensures

pub month_out-requires : goal.month_out-requires
month_out-requires c = let a = c.requires in
    (a.row_length, (a.day, a.high))

pub returns : goal.returns
returns c = skip-month _ _ _ _ c.month_out.ensures
