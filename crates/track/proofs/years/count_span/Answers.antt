-- `track::years::count_span` meets its contract. The invariant: what was found, and what the days left hold, make the whole.
use Rattle.track.proofs.AheadLaws.{tally-starts, tally-leaps, tally-adds, tally-nowhere, tally-over, falls-without}
use Rattle.track.proofs.YearLaws.{counted-few}
use Rattle.matcher.proofs.WalkLaws.{number_is, day-again}
use native.Mathlib.Omega.{arith}
use mathlib.Core.Path.{refl}
use Rattle.track.proofs.years.count_span.Goals as goal

pub overflow_cast-first : goal.overflow_cast-first
overflow_cast-first c = omega (arith, c.requires.starts)

pub loop-left-init : goal.loop-left-init
loop-left-init c = let a = c.requires in
    (a.day, (tally-starts _ _ _ _ refl, (a.after, (a.low, a.known))))

pub out_after-out-requires : goal.out_after-out-requires
out_after-out-requires c = let w = c.loop-left.invariant in
    let a = c.requires in
    record {
      row_length = a.row_length;
      week = a.week;
      day = w.0;
      low = omega (arith, w.1.0.low, w.1.1.1.0);
      high = omega (arith, w.1.0.ends, w.1.1.1.1, c.loop-left-test.true);
    }

pub returns-then-left-out : goal.returns-then-left-out
returns-then-left-out c = let w = c.loop-left.invariant in
    tally-nowhere _ _ _ _ _ _ w.1.0 _ (falls-without _ _ _ _ _ _ _ c.out_after-out.ensures) c.if-left-out.true

pub days_later-d-requires : goal.days_later-d-requires
days_later-d-requires c = let w = c.loop-left.invariant in
    (w.0, (c.if-out-gt0.true, omega (arith, w.1.0.ends, w.1.1.1.1, c.if-left-out.false)))

pub loop-left-smaller-then-out-gt0 : goal.loop-left-smaller-then-out-gt0
loop-left-smaller-then-out-gt0 c = omega (arith, c.if-out-gt0.true, c.if-left-out.false)

pub loop-left-preserved-then-out-gt0 : goal.loop-left-preserved-then-out-gt0
loop-left-preserved-then-out-gt0 c = let w = c.loop-left.invariant in
    let e = c.days_later-d.ensures in
    (day-again _ _ e, (tally-leaps _ _ _ _ _ _ w.1.0 _ (falls-without _ _ _ _ _ _ _ c.out_after-out.ensures) _ (number_is _ _ e) c.if-left-out.false, w.1.1))

pub span_part-part-requires : goal.span_part-part-requires
span_part-part-requires c = let w = c.loop-left.invariant in
    let some_left = c.loop-left-test.true in
    (w.0, (omega (arith, w.1.0.ends, w.1.1.1.1, some_left), some_left))

pub count_days-found-requires : goal.count_days-found-requires
count_days-found-requires c = let w = c.loop-left.invariant in
    let a = c.requires in
    record {
      row_length = a.row_length;
      week = a.week;
      day = w.0;
      low = omega (arith, w.1.0.low, w.1.1.1.0);
      known = omega (arith, w.1.0.ends, w.1.1.1.1, c.span_part-part.ensures.most);
      after = omega (arith, w.1.0.low, w.1.1.0);
      starts = a.starts;
    }

pub overflow_add-found : goal.overflow_add-found
overflow_add-found c = let w = c.loop-left.invariant in
    omega (arith, counted-few _ _ _ _ c.count_days-found.ensures, c.span_part-part.ensures.most, w.1.0.count.few, w.1.0.count.within, w.1.0.ends, w.1.1.1.1)

pub overflow_sub-left-else-out-gt0 : goal.overflow_sub-left-else-out-gt0
overflow_sub-left-else-out-gt0 c = omega (arith, c.span_part-part.ensures.most)

pub days_later-d-requires-else-out-gt0 : goal.days_later-d-requires-else-out-gt0
days_later-d-requires-else-out-gt0 c = let w = c.loop-left.invariant in
    let part = c.span_part-part.ensures in
    (w.0, (part.more, omega (arith, w.1.0.ends, w.1.1.1.1, part.most)))

pub loop-left-smaller : goal.loop-left-smaller
loop-left-smaller c = omega (arith, c.span_part-part.ensures.more, c.span_part-part.ensures.most)

pub loop-left-preserved : goal.loop-left-preserved
loop-left-preserved c = let w = c.loop-left.invariant in
    let e = c.days_later-d-else-out-gt0.ensures in
    (day-again _ _ e, (tally-adds _ _ _ _ _ _ w.1.0 _ _ _ (number_is _ _ e) c.span_part-part.ensures.most c.count_days-found.ensures, w.1.1))

pub returns : goal.returns
returns c = tally-over _ _ _ _ _ _ c.loop-left.invariant.1.0 c.loop-left-test.false
