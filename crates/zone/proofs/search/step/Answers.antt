-- `zone::search::step` meets its contract: the mark in the middle says which part is left.
use native.Mathlib.Omega.{arith}
use Rattle.zone.proofs.Machine.{Ranged, range-again, step-high, step-low}
use Rattle.zone.proofs.search.step.Goals as goal

pub at-mark-requires : goal.at-mark-requires
at-mark-requires c =
    let here : Ranged c.args.initial c.args.instants.now c.args.offsets.now c.args.local = record { initial_fits = c.ranges.initial; local_fits = c.ranges.local; range = c.requires.in_range } in
    record { in_range = range-again here; i_in_bounds = omega (arith, c.requires.low_lt_high) }

pub returns-then-local-mark : goal.returns-then-local-mark
returns-then-local-mark c =
    let here : Ranged c.args.initial c.args.instants.now c.args.offsets.now c.args.local = record { initial_fits = c.ranges.initial; local_fits = c.ranges.local; range = c.requires.in_range } in
    step-high here c.args.low c.args.high c.requires.low_lt_high.0 _ c.at-mark.type_inv c.at-mark.ensures c.if-local-mark.true

pub returns : goal.returns
returns c =
    let here : Ranged c.args.initial c.args.instants.now c.args.offsets.now c.args.local = record { initial_fits = c.ranges.initial; local_fits = c.ranges.local; range = c.requires.in_range } in
    step-low here c.args.low c.args.high c.requires.low_lt_high.0 _ c.at-mark.type_inv c.at-mark.ensures c.if-local-mark.false
