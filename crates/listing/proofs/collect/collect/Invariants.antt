-- `listing::collect::collect` meets its contract. The invariant: the days of the hits so far stand in the list.
use Rattle.listing.proofs.CollectLaws.{CollectAt}
use Rattle.listing.proofs.collect.collect.Given as goal

abbrev pub invariant-loop-k : goal.invariant-loop-k
invariant-loop-k l = CollectAt l.hits l.first l.initial.days l.at l.days l.k l.found
