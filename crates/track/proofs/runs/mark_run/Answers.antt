-- `track::runs::mark_run` meets its contract: the days that are not looked at are none of the rule's.
use Rattle.track.proofs.ClipLaws.{clip-none, clip-run, clip-marked}
use native.Mathlib.Omega.{arith}
use Rattle.track.proofs.runs.mark_run.Goals as goal

pub overflow_cast-hits : goal.overflow_cast-hits
overflow_cast-hits c = omega (arith, c.requires.high)

pub overflow_add-first : goal.overflow_add-first
overflow_add-first c = omega (arith, c.requires.high)

pub returns-then-to-from : goal.returns-then-to-from
returns-then-to-from c = clip-none _ _ _ _ _ _ _ _ c.later-from.ensures c.earlier-to.ensures c.if-to-from.true

pub overflow_sub-a : goal.overflow_sub-a
overflow_sub-a c = c.later-from.ensures.first

pub overflow_sub-b : goal.overflow_sub-b
overflow_sub-b c = omega (arith, c.later-from.ensures.first, c.if-to-from.false)

pub slice_bounds-mark_days-start : goal.slice_bounds-mark_days-start
slice_bounds-mark_days-start c = omega (arith, c.later-from.ensures.first, c.if-to-from.false)

pub slice_bounds-mark_days-end : goal.slice_bounds-mark_days-end
slice_bounds-mark_days-end c = omega (arith, c.later-from.ensures.first, c.earlier-to.ensures.first, c.if-to-from.false)

pub mark_days-requires : goal.mark_days-requires
mark_days-requires c = clip-run _ c.args.flags.now _ _ c.args.value _ _ _ c.later-from.ensures c.earlier-to.ensures _ c.requires c.if-to-from.false

pub returns : goal.returns
returns c = clip-marked _ _ _ _ _ _ _ _ c.later-from.ensures c.earlier-to.ensures _ c.if-to-from.false c.mark_days.ensures
