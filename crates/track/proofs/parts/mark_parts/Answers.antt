-- `track::parts::mark_parts` meets its contract. The invariant: what is marked, and what is left to mark, make the whole, and the rows that are kept are right.
use Rattle.track.proofs.PlainLaws.{month-at, month-fits, part-size, mark-lent, mark-falls}
use Rattle.track.proofs.RunLaws.{mark-starts, mark-goes-by, mark-rests, mark-ends}
use Rattle.rule.specs.Day.{day_at}
use Rattle.matcher.proofs.WalkLaws.{number_is, day-again}
use Rattle.months.proofs.RowLaws.{kept-none}
use native.Mathlib.Omega.{arith}
use mathlib.Core.Path.{sym, ap, ◌∙◌}
use Rattle.track.proofs.parts.mark_parts.Goals as goal

pub loop-i-init : goal.loop-i-init
loop-i-init c = (c.day_of-x.ensures ∙ ap day_at (omega arith), (mark-starts _ _ _ _, kept-none _ _))

pub skip-out-requires : goal.skip-out-requires
skip-out-requires c = let m = c.loop-i.invariant in
    let p = c.requires.1 in
    month-at _ _ _ _ p.row_length p.week m.0 (omega (arith, p.low)) (omega (arith, p.high, m.1.0.size, c.loop-i-test.true))

pub overflow_add-i : goal.overflow_add-i
overflow_add-i c = omega (arith, c.skip-out.ensures.few, c.loop-i.invariant.1.0.size, c.loop-i-test.true, c.requires.1.high)

pub shape_of-hits-then-hits-i : goal.shape_of-hits-then-hits-i
shape_of-hits-then-hits-i c = c.loop-i.invariant.1.0.size

pub returns-then-hits-i : goal.returns-then-hits-i
returns-then-hits-i c = let m = c.loop-i.invariant in
    mark-rests _ _ _ _ _ _ _ _ m.1.0 (number_is _ _ m.0) c.if-hits-i.true c.skip-out.ensures.none

pub days_later-x-requires : goal.days_later-x-requires
days_later-x-requires c = let m = c.loop-i.invariant in
    let p = c.requires.1 in
    let at = number_is _ _ m.0 in
    (day-again _ _ m.0, (c.if-out-gt0.true, omega (arith, at, p.high, m.1.0.size, c.if-hits-i.false)))

pub loop-i-smaller-then-out-gt0 : goal.loop-i-smaller-then-out-gt0
loop-i-smaller-then-out-gt0 c = omega (arith, c.if-out-gt0.true, c.if-hits-i.false)

pub loop-i-preserved-then-out-gt0 : goal.loop-i-preserved-then-out-gt0
loop-i-preserved-then-out-gt0 c = let m = c.loop-i.invariant in
    let at = number_is _ _ m.0 in (
      c.days_later-x.ensures ∙ ap day_at (omega (arith, at)),
      (mark-goes-by _ _ _ _ _ _ _ _ m.1.0 at c.if-hits-i.false c.skip-out.ensures.none, m.1.1),
    )

pub month_part-n-requires : goal.month_part-n-requires
month_part-n-requires c = let m = c.loop-i.invariant in
    let p = c.requires.1 in
    let at = number_is _ _ m.0 in
    (day-again _ _ m.0, (omega (arith, at, p.high, m.1.0.size, c.loop-i-test.true), omega (arith, c.loop-i-test.true)))

pub slice_bounds-mark_part-end : goal.slice_bounds-mark_part-end
slice_bounds-mark_part-end c = sym c.loop-i.invariant.1.1.size

pub overflow_add-i-else-out-gt0 : goal.overflow_add-i-else-out-gt0
overflow_add-i-else-out-gt0 c = omega (arith, c.month_part-n.ensures.most, c.loop-i-test.true, c.loop-i.invariant.1.0.size, c.requires.1.high)

pub slice_bounds-mark_part-end-else-out-gt0 : goal.slice_bounds-mark_part-end-else-out-gt0
slice_bounds-mark_part-end-else-out-gt0 c = omega (arith, c.month_part-n.ensures.most, c.loop-i-test.true)

pub mark_part-requires : goal.mark_part-requires
mark_part-requires c = let m = c.loop-i.invariant in
    let p = c.requires in
    let n = c.month_part-n.ensures in
    let at = number_is _ _ m.0 in
    let size = part-size c.loop-i.hits c.loop-i.i c.month_part-n.result (omega (arith, n.most, c.loop-i-test.true)) in (
      p.0,
      (
        m.1.1,
        (month-at _ _ _ _ p.1.row_length p.1.week m.0 (omega (arith, p.1.low)) (omega (arith, p.1.high, m.1.0.size, c.loop-i-test.true)), month-fits _ _ _ size n.within (omega (arith, at, p.1.high, m.1.0.size, n.most, c.loop-i-test.true))),
      ),
    )

pub overflow_add-i-else-out-gt0-2 : goal.overflow_add-i-else-out-gt0-2
overflow_add-i-else-out-gt0-2 c = omega (arith, c.month_part-n.ensures.most, c.loop-i-test.true, c.loop-i.invariant.1.0.size, c.requires.1.high)

pub shape_of-hits-then-hits-i-2 : goal.shape_of-hits-then-hits-i-2
shape_of-hits-then-hits-i-2 c = let m = c.loop-i.invariant in
    (mark-lent _ _ _ _ _ _ m.1.0 _ _ _ (omega (arith, c.month_part-n.ensures.most, c.loop-i-test.true)) (number_is _ _ m.0) c.mark_part.ensures.marks).size

pub returns-then-hits-i-2 : goal.returns-then-hits-i-2
returns-then-hits-i-2 c = let m = c.loop-i.invariant in
    mark-ends _ _ _ _ _ _ (mark-lent _ _ _ _ _ _ m.1.0 _ _ _ (omega (arith, c.month_part-n.ensures.most, c.loop-i-test.true)) (number_is _ _ m.0) c.mark_part.ensures.marks) c.if-hits-i-2.true

pub overflow_cast-n : goal.overflow_cast-n
overflow_cast-n c = omega (arith, c.month_part-n.ensures.most, c.loop-i-test.true, c.loop-i.invariant.1.0.size, c.requires.1.high)

pub days_later-x-requires-else-out-gt0 : goal.days_later-x-requires-else-out-gt0
days_later-x-requires-else-out-gt0 c = let m = c.loop-i.invariant in
    let p = c.requires.1 in
    let n = c.month_part-n.ensures in
    let at = number_is _ _ m.0 in
    (day-again _ _ m.0, (n.more, omega (arith, at, p.high, m.1.0.size, n.most, c.loop-i-test.true)))

pub loop-i-smaller : goal.loop-i-smaller
loop-i-smaller c = let m = c.loop-i.invariant in
    mark-falls _ _ _ _ _ _ m.1.0 _ _ (mark-lent _ _ _ _ _ _ m.1.0 _ _ _ (omega (arith, c.month_part-n.ensures.most, c.loop-i-test.true)) (number_is _ _ m.0) c.mark_part.ensures.marks) c.month_part-n.ensures.more c.loop-i-test.true

pub loop-i-preserved : goal.loop-i-preserved
loop-i-preserved c = let m = c.loop-i.invariant in
    let at = number_is _ _ m.0 in (
      c.days_later-x-else-out-gt0.ensures ∙ ap day_at (omega (arith, at)),
      (mark-lent _ _ _ _ _ _ m.1.0 _ _ _ (omega (arith, c.month_part-n.ensures.most, c.loop-i-test.true)) (number_is _ _ m.0) c.mark_part.ensures.marks, c.mark_part.ensures.kept),
    )

pub shape_of-hits : goal.shape_of-hits
shape_of-hits c = c.loop-i.invariant.1.0.size

pub returns : goal.returns
returns c = mark-ends _ _ _ _ _ _ c.loop-i.invariant.1.0 c.loop-i-test.false
