-- `dates::marks::mark_ids` meets its contract.
use Rattle.std.specs.Iterator.Adapters.{zip_first, zip_second}
use Rattle.std.specs.Slice.Iter.{iter_rest}
use Rattle.dates.proofs.MarkLaws.{IdsAt}
use Rattle.dates.proofs.marks.mark_ids.Given as goal

abbrev pub invariant-loop-id : goal.invariant-loop-id
invariant-loop-id l = IdsAt l.only l.ids l.gone l.start l.value l.first l.initial.hits l.hits (iter_rest (zip_first l.id-iterator)) (iter_rest (zip_second l.id-iterator))
