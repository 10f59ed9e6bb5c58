-- `track::alike::lay` meets its contract. The invariant: what is marked, and what is left to mark, make the whole.
use Rattle.track.proofs.AlikeLaws.{lay-one}
use Rattle.track.proofs.RunLaws.{mark-starts, mark-ends}
use native.Mathlib.Omega.{arith}
use Rattle.track.proofs.alike.lay.Goals as goal

pub loop-k-init : goal.loop-k-init
loop-k-init c = mark-starts _ _ _ _

pub loop-k-preserved : goal.loop-k-preserved
loop-k-preserved c = let m = c.loop-k.invariant in
    lay-one _ _ _ _ _ _ m (omega (arith, c.loop-k-test.true, m.size)) _ c.choose.ensures

pub returns : goal.returns
returns c = mark-ends _ _ _ _ _ _ c.loop-k.invariant (omega (arith, c.loop-k-test.false, c.loop-k.invariant.size))
