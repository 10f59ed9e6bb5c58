-- `listing::collect::collect` meets its contract. The invariant: the days of the hits so far stand in the list.
use Rattle.listing.proofs.CollectLaws.{collect-starts, collect-room, collect-one, collect-ends}
use native.Mathlib.Omega.{arith}
use Rattle.listing.proofs.collect.collect.Goals as goal

pub loop-k-init : goal.loop-k-init
loop-k-init c = collect-starts _ _ _ _

pub overflow_cast-days : goal.overflow_cast-days
overflow_cast-days c = omega (arith, c.loop-k-test.true, c.requires.0)

pub overflow_add-days : goal.overflow_add-days
overflow_add-days c = omega (arith, c.loop-k-test.true, c.requires.0)

pub overflow_add-days-in-loop-k : goal.overflow_add-days-in-loop-k
overflow_add-days-in-loop-k c = omega (arith, c.loop-k.invariant.most, c.loop-k-test.true, c.requires.1.0, c.requires.1.1)

pub bounds-days-at : goal.bounds-days-at
bounds-days-at c = collect-room _ _ _ _ _ _ _ c.loop-k.invariant c.loop-k-test.true c.requires.1.0

pub one_more-found-requires : goal.one_more-found-requires
one_more-found-requires c = let p = c.requires.1 in
    omega (arith, collect-room _ _ _ _ _ _ _ c.loop-k.invariant c.loop-k-test.true p.0, c.loop-k.invariant.size, p.1)

pub loop-k-preserved : goal.loop-k-preserved
loop-k-preserved c = collect-one _ _ _ _ _ _ _ c.loop-k.invariant c.loop-k-test.true c.requires.1.0 _ c.one_more-found.ensures

pub overflow_add-result : goal.overflow_add-result
overflow_add-result c = omega (arith, c.loop-k.invariant.most, c.loop-k.invariant.within, c.requires.1.0, c.requires.1.1)

pub shape_of-days : goal.shape_of-days
shape_of-days c = c.loop-k.invariant.size

pub returns : goal.returns
returns c = collect-ends _ _ _ _ _ _ _ c.loop-k.invariant c.loop-k-test.false
