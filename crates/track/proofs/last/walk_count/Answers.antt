-- `track::last::walk_count` meets its contract. The invariant: from here on the walk ends where it ends from the start on.
use Rattle.track.proofs.LastLaws.{end-found, end-over, end-goes-on, end-leaps, end-nowhere, falls-between}
use Rattle.track.proofs.StepLaws.{cursor-at-day, at-number, at_again, held-here}
use Rattle.track.proofs.AheadLaws.{end-moves}
use Rattle.track.proofs.SkipLaws.{between-all}
use native.Mathlib.Omega.{arith}
use mathlib.Core.Path.{sym, ◌∙◌}
use Rattle.track.proofs.last.walk_count.Goals as goal

pub least_days-need-requires : goal.least_days-need-requires
least_days-need-requires c = c.requires.0.0.row_length

pub count_from-from-requires : goal.count_from-from-requires
count_from-from-requires c = c.requires

pub cursor_on-c-requires : goal.cursor_on-c-requires
cursor_on-c-requires c = let r = c.count_from-from.ensures in
    let a = c.requires.0.0 in
    (r.day, record { row_length = a.row_length; week = a.week; low = omega (arith, r.walk.low, a.low); high = omega (arith, r.walk.ends, a.within) })

pub loop-left-init : goal.loop-left-init
loop-left-init c = let r = c.count_from-from.ensures in
    let e = c.cursor_on-c.ensures ∙ cursor-at-day _ _ _ _ r.day in
    (at_again _ _ _ _ e, end-moves _ _ _ _ _ _ _ _ r.walk (at-number _ _ _ _ e))

pub overflow_sub-result : goal.overflow_sub-result
overflow_sub-result c = omega (arith, c.loop-left.invariant.1.ends)

pub returns-then-more-eq0 : goal.returns-then-more-eq0
returns-then-more-eq0 c = let w = c.loop-left.invariant.1 in
    end-found _ _ _ _ _ _ _ w c.if-more-eq0.true

pub falls-requires : goal.falls-requires
falls-requires c = let w = c.loop-left.invariant in
    let a = c.requires.0.0 in
    let held = held-here _ _ _ _ a.row_length a.week (omega (arith, w.1.low, a.low)) (omega (arith, w.1.ends, a.within, c.loop-left-test.true)) w.0 in
    (held, a.high)

pub advance-c-requires : goal.advance-c-requires
advance-c-requires c = let w = c.loop-left.invariant in
    let a = c.requires.0.0 in
    let held = held-here _ _ _ _ a.row_length a.week (omega (arith, w.1.low, a.low)) (omega (arith, w.1.ends, a.within, c.loop-left-test.true)) w.0 in
    held

pub loop-left-preserved-then-falls : goal.loop-left-preserved-then-falls
loop-left-preserved-then-falls c = let w = c.loop-left.invariant in
    let e = c.advance-c.ensures in
    (at_again _ _ _ _ e, end-goes-on _ _ _ _ _ _ _ w.1 _ (at-number _ _ _ _ e) c.loop-left-test.true c.if-more-eq0.false (sym c.falls.ensures ∙ c.if-falls.true))

pub gap-gap-requires : goal.gap-gap-requires
gap-gap-requires c = let w = c.loop-left.invariant in
    let a = c.requires.0.0 in
    let held = held-here _ _ _ _ a.row_length a.week (omega (arith, w.1.low, a.low)) (omega (arith, w.1.ends, a.within, c.loop-left-test.true)) w.0 in
    (held, c.least_days-need.ensures)

pub returns-then-left-gap : goal.returns-then-left-gap
returns-then-left-gap c = let w = c.loop-left.invariant in
    end-nowhere _ _ _ _ _ _ _ w.1 _ c.if-more-eq0.false
    (between-all _ _ _ (falls-between _ _ _ _ _ _ _ w.1.low c.gap-gap.ensures) (sym c.falls.ensures ∙ c.if-falls.false)) c.if-left-gap.true

pub leap-c-requires : goal.leap-c-requires
leap-c-requires c = let w = c.loop-left.invariant in
    let a = c.requires.0.0 in
    let held = held-here _ _ _ _ a.row_length a.week (omega (arith, w.1.low, a.low)) (omega (arith, w.1.ends, a.within, c.loop-left-test.true)) w.0 in
    (held, (c.gap-gap.ensures.more, omega (arith, w.1.ends, a.within, c.if-left-gap.false)))

pub loop-left-smaller : goal.loop-left-smaller
loop-left-smaller c = omega (arith, c.gap-gap.ensures.more, c.if-left-gap.false)

pub loop-left-preserved : goal.loop-left-preserved
loop-left-preserved c = let w = c.loop-left.invariant in
    let e = c.leap-c.ensures in (
      at_again _ _ _ _ e,
      end-leaps _ _ _ _ _ _ _ w.1 _ c.if-more-eq0.false
          (between-all _ _ _ (falls-between _ _ _ _ _ _ _ w.1.low c.gap-gap.ensures) (sym c.falls.ensures ∙ c.if-falls.false)) _ (at-number _ _ _ _ e) c.if-left-gap.false,
    )

pub returns : goal.returns
returns c = end-over _ _ _ _ _ _ _ c.loop-left.invariant.1 c.loop-left-test.false
