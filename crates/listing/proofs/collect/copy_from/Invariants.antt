-- `listing::collect::copy_from` meets its contract. The invariant: the entries so far stand in the list.
use Rattle.listing.proofs.CollectLaws.{CopyAt}
use Rattle.listing.proofs.collect.copy_from.Given as goal

abbrev pub invariant-loop-k : goal.invariant-loop-k
invariant-loop-k l = CopyAt l.list l.first l.initial.days l.at l.days l.k
