-- `track::skips::place_gap` meets its contract.
use Rattle.track.proofs.SkipLaws.{between-one, without-between}
use Rattle.track.proofs.PlaceLaws.{unplaced-between, held-short}
use Rattle.track.proofs.StepLaws.{held-asked}
use native.Mathlib.Omega.{arith}
use mathlib.Core.Path.{refl}
use Rattle.track.proofs.skips.place_gap.Goals as goal

pub overflow_sub-result : goal.overflow_sub-result
overflow_sub-result c = omega (arith, c.requires.1.0.high)

pub returns-then-most-need : goal.returns-then-most-need
returns-then-most-need c = let p = c.requires in
    unplaced-between _ _ _ p.0 p.1.1 _ (held-asked _ _ _ p.1.0) (omega (arith, c.most_days-most.ensures, c.if-most-need.true))

pub skip_early-n-requires : goal.skip_early-n-requires
skip_early-n-requires c = held-asked _ _ _ c.requires.1.0

pub returns-then-n-gt0 : goal.returns-then-n-gt0
returns-then-n-gt0 c = without-between _ _ _ c.skip_early-n.ensures (λ none. omega (arith, c.if-n-gt0.true))

pub to_period_end-requires : goal.to_period_end-requires
to_period_end-requires c = let a = held-asked _ _ _ c.requires.1.0 in
    record { row_length = refl; week = a.week; day = a.day; low = a.low; high = a.high }

pub returns-then-total-need : goal.returns-then-total-need
returns-then-total-need c = let p = c.requires in
    held-short _ _ _ p.0 p.1.1 _ p.1.0 _ c.if-total-need.true c.to_period_end.ensures

pub returns : goal.returns
returns c = between-one _ _
