-- `track::ahead::pass_months` meets its contract. The invariant: from here on the count ends where it ends from the start on.
use Rattle.track.proofs.AheadLaws.{end-passes, end-begins, falls-without}
use Rattle.track.proofs.LastLaws.{end-leaps}
use Rattle.track.proofs.PlainLaws.{month-at}
use Rattle.matcher.proofs.WalkLaws.{number_is, day-again}
use native.Mathlib.Omega.{arith}
use Rattle.track.proofs.ahead.pass_months.Goals as goal

pub loop-left-init : goal.loop-left-init
loop-left-init c = (c.requires.1.day, end-begins _ _ _ _)

pub returns-then-more-eq0 : goal.returns-then-more-eq0
returns-then-more-eq0 c = record { day = c.loop-left.invariant.0; walk = c.loop-left.invariant.1 }

pub out_after-out-requires : goal.out_after-out-requires
out_after-out-requires c = let w = c.loop-left.invariant in
    let p = c.requires in
    month-at _ _ _ _ p.1.row_length p.1.week w.0 (omega (arith, w.1.low, p.1.low, p.1.after)) (omega (arith, w.1.ends, p.1.within, c.loop-left-test.true))

pub returns-then-left-out : goal.returns-then-left-out
returns-then-left-out c = record { day = c.loop-left.invariant.0; walk = c.loop-left.invariant.1 }

pub days_later-x-requires : goal.days_later-x-requires
days_later-x-requires c = let w = c.loop-left.invariant in
    (w.0, (c.if-out-gt0.true, omega (arith, w.1.ends, c.requires.1.within, c.if-left-out.false)))

pub loop-left-smaller-then-out-gt0 : goal.loop-left-smaller-then-out-gt0
loop-left-smaller-then-out-gt0 c = omega (arith, c.if-out-gt0.true, c.if-left-out.false)

pub loop-left-preserved-then-out-gt0 : goal.loop-left-preserved-then-out-gt0
loop-left-preserved-then-out-gt0 c = let w = c.loop-left.invariant in
    let e = c.days_later-x.ensures in
    (day-again _ _ e, end-leaps _ _ _ _ _ _ _ w.1 _ c.if-more-eq0.false (falls-without _ _ _ _ _ _ _ c.out_after-out.ensures) _ (number_is _ _ e) c.if-left-out.false)

pub month_part-n-requires : goal.month_part-n-requires
month_part-n-requires c = let w = c.loop-left.invariant in
    (w.0, (omega (arith, w.1.ends, c.requires.1.within, c.loop-left-test.true), omega (arith, c.loop-left-test.true)))

pub overflow_cast-n : goal.overflow_cast-n
overflow_cast-n c = omega (arith, c.month_part-n.ensures.most, c.loop-left.invariant.1.ends, c.requires.1.within)

pub count_month-found-requires : goal.count_month-found-requires
count_month-found-requires c = let w = c.loop-left.invariant in
    let p = c.requires in
    let n = c.month_part-n.ensures in
    (p.0, ((month-at _ _ _ _ p.1.row_length p.1.week w.0 (omega (arith, w.1.low, p.1.low, p.1.after)) (omega (arith, w.1.ends, p.1.within, c.loop-left-test.true)), record { within = n.within; known = omega (arith, n.most, w.1.ends, p.1.within) }), p.1.starts))

pub returns-then-more-found : goal.returns-then-more-found
returns-then-more-found c = record { day = c.loop-left.invariant.0; walk = c.loop-left.invariant.1 }

pub overflow_sub-left-else-out-gt0 : goal.overflow_sub-left-else-out-gt0
overflow_sub-left-else-out-gt0 c = omega (arith, c.month_part-n.ensures.most)

pub days_later-x-requires-else-out-gt0 : goal.days_later-x-requires-else-out-gt0
days_later-x-requires-else-out-gt0 c = let w = c.loop-left.invariant in
    let n = c.month_part-n.ensures in
    (w.0, (n.more, omega (arith, w.1.ends, c.requires.1.within, n.most)))

pub loop-left-smaller : goal.loop-left-smaller
loop-left-smaller c = omega (arith, c.month_part-n.ensures.more, c.loop-left-test.true)

pub loop-left-preserved : goal.loop-left-preserved
loop-left-preserved c = let w = c.loop-left.invariant in
    let e = c.days_later-x-else-out-gt0.ensures in
    (day-again _ _ e, end-passes _ _ _ _ _ _ _ w.1 _ _ _ (number_is _ _ e) c.month_part-n.ensures.most c.count_month-found.ensures c.if-more-found.false)

pub returns : goal.returns
returns c = record { day = c.loop-left.invariant.0; walk = c.loop-left.invariant.1 }
