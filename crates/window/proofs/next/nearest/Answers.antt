-- `window::next::nearest` meets its contract.
use Rattle.std.proofs.lemmas.Slice.Zip.{Zip-more}
use Rattle.std.proofs.lemmas.Iterator.{empty_from_Zip}
use Rattle.window.proofs.OverrideLaws.{least-goes-on, least-ends}
use Rattle.window.proofs.next.nearest.Goals as goal

pub loop-id-preserved : goal.loop-id-preserved
loop-id-preserved c =
    let more = Zip-more c.loop-id.id-iterator c.next.new.self _ (c.in-Some.id, c.in-Some.gone) c.in-Some.is c.next.ensures.steps in
    least-goes-on _ _ _ _ _ _ _ _ _ _ (rw (more.0, more.1) at c.loop-id.invariant) c.nearer_of-best.ensures

pub returns : goal.returns
returns c =
    let spent = empty_from_Zip c.loop-id.id-iterator c.next.new.self _ c.in-None.is c.next.ensures.steps c.loop-id.invariant.sizes in
    least-ends _ _ _ _ _ (rw (spent.0, spent.1) at c.loop-id.invariant)
