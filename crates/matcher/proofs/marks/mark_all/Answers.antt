-- `matcher::marks::mark_all` meets its contract. The invariant: the flags so far are set, and the others are as they were.
use native.Mathlib.Omega.{arith}
use Rattle.matcher.proofs.MarkLaws.{all-starts, all-goes-on, all-ends}
use Rattle.matcher.proofs.marks.mark_all.Goals as goal

pub loop-i-init : goal.loop-i-init
loop-i-init c = all-starts _ _

pub loop-i-preserved : goal.loop-i-preserved
loop-i-preserved c = let w = c.loop-i.invariant in
    all-goes-on _ _ _ _ w c.loop-i.auto.i (omega (arith, c.requires, c.loop-i-test.true, w.size))

pub returns : goal.returns
returns c = all-ends _ _ _ _ _ c.loop-i.invariant (omega (arith, c.loop-i-test.false, c.loop-i.auto.i-end)) c.requires
