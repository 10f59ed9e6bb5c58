-- `listing::days::list_days` meets its contract. The invariant: the days so far stand in the list, and what is kept of the kinds of months is right.
use Rattle.listing.proofs.DayLaws.{days-start, days-stop, days-end, days-pass, days-part, days-rest}
use Rattle.listing.proofs.PartLaws.{kinds-none, part-few}
use Rattle.rule.specs.Day.{day_at}
use Rattle.matcher.proofs.WalkLaws.{number_is, day-again}
use Rattle.track.proofs.PlainLaws.{month-at}
use native.Mathlib.Omega.{arith}
use mathlib.Core.Path.{sym, ap, ◌∙◌}
use Rattle.listing.proofs.days.list_days.Goals as goal

pub day_of-x-requires : goal.day_of-x-requires
day_of-x-requires c = omega (arith, c.requires.order, c.requires.high)

pub loop-day-init : goal.loop-day-init
loop-day-init c = (c.day_of-x.ensures, (days-start _ _ _ _ _ c.requires.order c.requires.place, kinds-none _ _))

pub skip-out-requires : goal.skip-out-requires
skip-out-requires c = let m = c.loop-day.invariant in
    let p = c.requires in
    month-at _ _ _ _ p.row_length p.week m.0 (omega (arith, p.low, m.1.0.low)) (omega (arith, p.high, c.loop-day-test.true))

pub overflow_add-day : goal.overflow_add-day
overflow_add-day c = omega (arith, c.skip-out.ensures.few, c.loop-day-test.true, c.requires.high)

pub shape_of-days-then-end-day : goal.shape_of-days-then-end-day
shape_of-days-then-end-day c = c.loop-day.invariant.1.0.size

pub returns-then-end-day : goal.returns-then-end-day
returns-then-end-day c = let m = c.loop-day.invariant in
    days-rest _ _ _ _ _ _ _ _ m.1.0 _ _ (number_is _ _ m.0) c.if-end-day.true c.skip-out.ensures.none

pub days_later-x-requires : goal.days_later-x-requires
days_later-x-requires c = let m = c.loop-day.invariant in
    let at = number_is _ _ m.0 in
    (day-again _ _ m.0, (c.if-out-gt0.true, omega (arith, at, c.requires.high, c.if-end-day.false)))

pub loop-day-smaller-then-out-gt0 : goal.loop-day-smaller-then-out-gt0
loop-day-smaller-then-out-gt0 c = omega (arith, c.if-out-gt0.true, c.if-end-day.false)

pub loop-day-preserved-then-out-gt0 : goal.loop-day-preserved-then-out-gt0
loop-day-preserved-then-out-gt0 c = let m = c.loop-day.invariant in
    let at = number_is _ _ m.0 in
    (c.days_later-x.ensures ∙ ap day_at (omega (arith, at)), (days-pass _ _ _ _ _ _ _ _ m.1.0 _ _ at (omega (arith, c.if-end-day.false)) c.skip-out.ensures.none, m.1.1))

pub overflow_add-count : goal.overflow_add-count
overflow_add-count c = omega (arith, c.loop-day.invariant.1.0.few, c.requires.small)

pub shape_of-days-then-days-count : goal.shape_of-days-then-days-count
shape_of-days-then-days-count c = c.loop-day.invariant.1.0.size

pub returns-then-days-count : goal.returns-then-days-count
returns-then-days-count c = days-stop _ _ _ _ _ _ _ _ c.loop-day.invariant.1.0 c.if-days-count.true

pub month_part-part-requires : goal.month_part-part-requires
month_part-part-requires c = let m = c.loop-day.invariant in
    let at = number_is _ _ m.0 in
    (day-again _ _ m.0, (omega (arith, at, c.requires.high, c.loop-day-test.true), omega (arith, c.loop-day-test.true)))

pub slice_bounds-list_part-end : goal.slice_bounds-list_part-end
slice_bounds-list_part-end c = sym c.loop-day.invariant.1.1.rows_kept.size

pub slice_bounds-list_part-end-else-out-gt0 : goal.slice_bounds-list_part-end-else-out-gt0
slice_bounds-list_part-end-else-out-gt0 c = sym c.loop-day.invariant.1.1.lists_kept.size

pub list_part-count-requires : goal.list_part-count-requires
list_part-count-requires c = let m = c.loop-day.invariant in
    let p = c.requires in
    let n = c.month_part-part.ensures in
    let at = number_is _ _ m.0 in
    let less = c.loop-day-test.true in (
      (
        p.by_months,
        (
          month-at _ _ _ _ p.row_length p.week m.0 (omega (arith, p.low, m.1.0.low)) (omega (arith, p.high)),
          record { within = n.within; known = omega (arith, at, p.high, n.most) },
        ),
      ),
      (m.1.1, record { month = c.if-days-count.false; small = omega (arith, m.1.0.size, p.small) }),
    )

pub overflow_cast-part : goal.overflow_cast-part
overflow_cast-part c = omega (arith, c.month_part-part.ensures.most, c.requires.high)

pub overflow_add-day-else-out-gt0 : goal.overflow_add-day-else-out-gt0
overflow_add-day-else-out-gt0 c = omega (arith, c.month_part-part.ensures.most, c.loop-day-test.true, c.requires.high)

pub shape_of-days-then-end-day-2 : goal.shape_of-days-then-end-day-2
shape_of-days-then-end-day-2 c = c.list_part-count.ensures.listed.size ∙ c.loop-day.invariant.1.0.size

pub returns-then-end-day-2 : goal.returns-then-end-day-2
returns-then-end-day-2 c = let m = c.loop-day.invariant in
    let n = c.month_part-part.ensures in
    let less = c.loop-day-test.true in
    days-end _ _ _ _ _ _ _ _ (days-part _ _ _ _ _ _ _ _ m.1.0 _ _ _ _ (number_is _ _ m.0) c.list_part-count.ensures.listed n.more (omega (arith, n.most)) (part-few _ _ _ m.0 (omega (arith, c.requires.high)) n.within) c.if-days-count.false) c.if-end-day-2.true

pub overflow_cast-day : goal.overflow_cast-day
overflow_cast-day c = omega (arith, c.month_part-part.ensures.most, c.requires.high)

pub overflow_cast-part-else-out-gt0 : goal.overflow_cast-part-else-out-gt0
overflow_cast-part-else-out-gt0 c = omega (arith, c.month_part-part.ensures.most, c.requires.high)

pub days_later-x-requires-else-out-gt0 : goal.days_later-x-requires-else-out-gt0
days_later-x-requires-else-out-gt0 c = let m = c.loop-day.invariant in
    let n = c.month_part-part.ensures in
    let at = number_is _ _ m.0 in
    (day-again _ _ m.0, (n.more, omega (arith, at, c.requires.high, n.most, c.loop-day-test.true)))

pub loop-day-smaller : goal.loop-day-smaller
loop-day-smaller c = omega (arith, c.month_part-part.ensures.more, c.if-end-day-2.false)

pub loop-day-preserved : goal.loop-day-preserved
loop-day-preserved c = let m = c.loop-day.invariant in
    let n = c.month_part-part.ensures in
    let less = c.loop-day-test.true in
    let at = number_is _ _ m.0 in (
      c.days_later-x-else-out-gt0.ensures ∙ ap day_at (omega (arith, at)),
      (
        days-part _ _ _ _ _ _ _ _ m.1.0 _ _ _ _ at c.list_part-count.ensures.listed n.more (omega (arith, n.most)) (part-few _ _ _ m.0 (omega (arith, c.requires.high)) n.within) c.if-days-count.false,
        c.list_part-count.ensures.kinds,
      ),
    )

pub shape_of-days : goal.shape_of-days
shape_of-days c = c.loop-day.invariant.1.0.size

pub returns : goal.returns
returns c = days-end _ _ _ _ _ _ _ _ c.loop-day.invariant.1.0 c.loop-day-test.false
