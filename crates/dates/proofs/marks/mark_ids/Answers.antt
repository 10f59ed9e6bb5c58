-- `dates::marks::mark_ids` meets its contract.
use Rattle.std.proofs.lemmas.Slice.Zip.{Zip-more}
use Rattle.std.proofs.lemmas.Iterator.{empty_from_Zip}
use Rattle.dates.proofs.MarkLaws.{ids-go-on, ids-end}
use Rattle.dates.proofs.marks.mark_ids.Goals as goal

pub loop-id-preserved : goal.loop-id-preserved
loop-id-preserved c =
    let more = Zip-more c.loop-id.id-iterator c.next.new.self _ (c.in-Some.id, c.in-Some.gone) c.in-Some.is c.next.ensures.steps in
    ids-go-on _ _ _ _ _ _ _ _ _ _ _ _ _ _ (rw (more.0, more.1) at c.loop-id.invariant) c.count_it.ensures c.mark_date.ensures

pub returns : goal.returns
returns c =
    let spent = empty_from_Zip c.loop-id.id-iterator c.next.new.self _ c.in-None.is c.next.ensures.steps c.loop-id.invariant.sizes in
    ids-end _ _ _ _ _ _ _ _ (rw (spent.0, spent.1) at c.loop-id.invariant)
