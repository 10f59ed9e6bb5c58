-- `listing::collect::copy_from` meets its contract. The invariant: the entries so far stand in the list.
use Rattle.listing.proofs.CollectLaws.{copy-starts, copy-room, copy-one, copy-ends}
use mathlib.Core.Path.{◌≡◌}
use lib.ListN.{length}
use native.Mathlib.Omega.{arith}
use Rattle.listing.proofs.collect.copy_from.Goals as goal

pub loop-k-init : goal.loop-k-init
loop-k-init c = copy-starts _ _ _ _

pub overflow_add-days : goal.overflow_add-days
overflow_add-days c = let p = c.requires.0 in
    omega (arith, p.begins, p.small c.loop-k.k c.loop-k-test.true)

pub bounds-days-at : goal.bounds-days-at
bounds-days-at c = copy-room _ _ _ _ _ _ c.loop-k.invariant c.loop-k-test.true c.requires.1

pub loop-k-preserved : goal.loop-k-preserved
loop-k-preserved c = copy-one _ _ _ _ _ _ c.loop-k.invariant c.loop-k-test.true c.requires.1

pub shape_of-days : goal.shape_of-days
shape_of-days c = c.loop-k.invariant.size

pub returns : goal.returns
returns c =
    let all : length c.args.list.now ≡ c.loop-k.k = omega (arith, c.loop-k.invariant.within, c.loop-k-test.false) in
    rw all (copy-ends _ _ _ _ _ _ c.loop-k.invariant c.loop-k-test.false)
