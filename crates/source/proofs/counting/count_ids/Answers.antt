-- `source::counting::count_ids` meets its contract: each turn counts the ids of one chunk.
use mathlib.Core.Path.{refl, sym, ◌∙◌}
use native.Mathlib.Omega.{arith}
use Rattle.source.proofs.CountLaws.{count-starts, count-few, count-more, count-ends}
use Rattle.source.proofs.counting.count_ids.Goals as goal

pub loop-at-init : goal.loop-at-init
loop-at-init c = (refl, count-starts _ _ _ c.requires.1.order)

pub slice_bounds-ids_from-end : goal.slice_bounds-ids_from-end
slice_bounds-ids_from-end c = sym c.loop-at.invariant.0

pub ids_from-c-requires : goal.ids_from-c-requires
ids_from-c-requires c = let i = c.loop-at.invariant in
    let p = c.requires in
    record {
      whole = p.0;
      span = record { low = omega (arith, p.1.low, i.1.low); order = i.1.order; high = p.1.high };
      room = omega (arith, i.0);
    }

pub overflow_add-found : goal.overflow_add-found
overflow_add-found c = let next = count-more _ _ _ _ _ c.loop-at.invariant.1 _ _ _ _ c.ids_from-c.ensures in
    omega (arith, count-few _ _ _ _ _ next, next.order, c.requires.1.high)

pub loop-at-smaller : goal.loop-at-smaller
loop-at-smaller c = let h = c.ids_from-c.ensures in
    omega (arith, h.ahead c.loop-at-test.true, h.high)

pub loop-at-preserved : goal.loop-at-preserved
loop-at-preserved c = let i = c.loop-at.invariant in
    let h = c.ids_from-c.ensures in
    (h.size ∙ i.0, count-more _ _ _ _ _ i.1 _ _ _ _ h)

pub returns : goal.returns
returns c = count-ends _ _ _ _ _ c.loop-at.invariant.1 c.loop-at-test.false
