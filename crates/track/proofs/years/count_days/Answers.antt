-- `track::years::count_days` meets its contract. The invariant: what was found, and what the days left hold, make the whole.
use Rattle.track.proofs.AheadLaws.{tally-starts, tally-yes, tally-leaps, tally-nowhere, tally-over}
use Rattle.track.proofs.LastLaws.{falls-between}
use Rattle.track.proofs.StepLaws.{cursor-at-day, at-number, at_again, held-here}
use Rattle.track.proofs.SkipLaws.{between-all}
use native.Mathlib.Omega.{arith}
use mathlib.Core.Path.{refl, sym, ◌∙◌}
use Rattle.track.proofs.years.count_days.Goals as goal

pub least_days-need-requires : goal.least_days-need-requires
least_days-need-requires c = c.requires.row_length

pub cursor_on-c-requires : goal.cursor_on-c-requires
cursor_on-c-requires c = let a = c.requires in
    (a.day, record { row_length = a.row_length; week = a.week; low = a.low; high = omega (arith, a.known) })

pub loop-left-init : goal.loop-left-init
loop-left-init c = let a = c.requires in
    let e = c.cursor_on-c.ensures ∙ cursor-at-day _ _ _ _ a.day in
    let same = at-number _ _ _ _ e in
    (at_again _ _ _ _ e, (tally-starts _ _ _ _ refl, (omega (arith, same, a.after), (omega (arith, same, a.low), omega (arith, same, a.known)))))

pub falls-requires : goal.falls-requires
falls-requires c = let w = c.loop-left.invariant in
    let a = c.requires in
    let held = held-here _ _ _ _ a.row_length a.week (omega (arith, w.1.0.low, w.1.1.1.0)) (omega (arith, w.1.0.ends, w.1.1.1.1, c.loop-left-test.true)) w.0 in
    (held, a.starts)

pub overflow_add-found : goal.overflow_add-found
overflow_add-found c = let w = c.loop-left.invariant in
    omega (arith, w.1.0.count.few, w.1.0.count.within, w.1.1.1.1)

pub advance-c-requires : goal.advance-c-requires
advance-c-requires c = let w = c.loop-left.invariant in
    let a = c.requires in
    held-here _ _ _ _ a.row_length a.week (omega (arith, w.1.0.low, w.1.1.1.0)) (omega (arith, w.1.0.ends, w.1.1.1.1, c.loop-left-test.true)) w.0

pub loop-left-preserved-then-falls : goal.loop-left-preserved-then-falls
loop-left-preserved-then-falls c = let w = c.loop-left.invariant in
    let e = c.advance-c.ensures in
    (at_again _ _ _ _ e, (tally-yes _ _ _ _ _ _ w.1.0 _ (at-number _ _ _ _ e) c.loop-left-test.true (sym c.falls.ensures ∙ c.if-falls.true), w.1.1))

pub gap-gap-requires : goal.gap-gap-requires
gap-gap-requires c = let w = c.loop-left.invariant in
    let a = c.requires in
    let held = held-here _ _ _ _ a.row_length a.week (omega (arith, w.1.0.low, w.1.1.1.0)) (omega (arith, w.1.0.ends, w.1.1.1.1, c.loop-left-test.true)) w.0 in
    (held, c.least_days-need.ensures)

pub returns-then-left-gap : goal.returns-then-left-gap
returns-then-left-gap c = let w = c.loop-left.invariant in
    let a = c.requires in
    let same = at-number _ _ _ _ (c.cursor_on-c.ensures ∙ cursor-at-day _ _ _ _ a.day) in
    rw same at (tally-nowhere _ _ _ _ _ _ w.1.0 _
    (between-all _ _ _ (falls-between _ _ _ _ _ _ _ (omega (arith, w.1.0.low, w.1.1.0)) c.gap-gap.ensures) (sym c.falls.ensures ∙ c.if-falls.false)) c.if-left-gap.true)

pub leap-c-requires : goal.leap-c-requires
leap-c-requires c = let w = c.loop-left.invariant in
    let a = c.requires in
    let held = held-here _ _ _ _ a.row_length a.week (omega (arith, w.1.0.low, w.1.1.1.0)) (omega (arith, w.1.0.ends, w.1.1.1.1, c.loop-left-test.true)) w.0 in
    (held, (c.gap-gap.ensures.more, omega (arith, w.1.0.ends, w.1.1.1.1, c.if-left-gap.false)))

pub loop-left-smaller : goal.loop-left-smaller
loop-left-smaller c = omega (arith, c.gap-gap.ensures.more, c.if-left-gap.false)

pub loop-left-preserved : goal.loop-left-preserved
loop-left-preserved c = let w = c.loop-left.invariant in
    let e = c.leap-c.ensures in (
      at_again _ _ _ _ e,
      (
        tally-leaps _ _ _ _ _ _ w.1.0 _
            (between-all _ _ _ (falls-between _ _ _ _ _ _ _ (omega (arith, w.1.0.low, w.1.1.0)) c.gap-gap.ensures) (sym c.falls.ensures ∙ c.if-falls.false)) _ (at-number _ _ _ _ e) c.if-left-gap.false,
        w.1.1,
      ),
    )

pub returns : goal.returns
returns c = let a = c.requires in
    let same = at-number _ _ _ _ (c.cursor_on-c.ensures ∙ cursor-at-day _ _ _ _ a.day) in
    rw same at (tally-over _ _ _ _ _ _ c.loop-left.invariant.1.0 c.loop-left-test.false)
