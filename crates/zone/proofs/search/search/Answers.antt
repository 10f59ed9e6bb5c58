-- `zone::search::search` meets its contract: each turn is a step, and eleven are enough for 1,024 marks.
use native.Mathlib.Omega.{arith}
use Rattle.zone.proofs.SearchLaws.{going_start, going_next}
use Rattle.zone.proofs.Machine.{Ranged, range-again, search-end}
use Rattle.zone.proofs.search.search.Goals as goal

pub loop-low-init : goal.loop-low-init
loop-low-init c = going_start _ _ _ (omega (arith, c.requires.instants_len_bound))

pub step-s-requires : goal.step-s-requires
step-s-requires c =
    let here : Ranged c.args.initial c.args.instants.now c.args.offsets.now c.args.local = record { initial_fits = c.ranges.initial; local_fits = c.ranges.local; range = c.requires.in_range } in
    record { in_range = range-again here; low_lt_high = (c.loop-low-test.true, c.loop-low.invariant.fits) }

pub overflow_add-steps : goal.overflow_add-steps
overflow_add-steps c = record { fits = omega (arith, c.loop-low.invariant.most) }

pub loop-low-smaller : goal.loop-low-smaller
loop-low-smaller c = omega (arith, c.loop-low-test.true, c.step-s.ensures.left.half, c.step-s.ensures.left.order)

pub loop-low-preserved : goal.loop-low-preserved
loop-low-preserved c = going_next _ _ _ _ _ _ c.loop-low.invariant c.loop-low-test.true _ c.step-s.ensures

pub returns : goal.returns
returns c =
    let here : Ranged c.args.initial c.args.instants.now c.args.offsets.now c.args.local = record { initial_fits = c.ranges.initial; local_fits = c.ranges.local; range = c.requires.in_range } in
    search-end here _ _ _ c.loop-low.invariant c.loop-low-test.false
