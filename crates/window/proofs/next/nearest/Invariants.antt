-- `window::next::nearest` meets its contract.
use Rattle.std.specs.Iterator.Adapters.{zip_first, zip_second}
use Rattle.std.specs.Slice.Iter.{iter_rest}
use Rattle.window.proofs.OverrideLaws.{LeastAt}
use Rattle.window.proofs.next.nearest.Given as goal

abbrev pub invariant-loop-id : goal.invariant-loop-id
invariant-loop-id l = LeastAt l.ids l.gone l.at l.to l.best (iter_rest (zip_first l.id-iterator)) (iter_rest (zip_second l.id-iterator))
