-- `track::places::least_days` meets its contract. The invariant: the positions before k are not set.
use Rattle.track.specs.Inner.Places.{Unset}
use Rattle.track.proofs.places.least_days.Given as goal

abbrev pub invariant-loop-k : goal.invariant-loop-k
invariant-loop-k l = Unset l.flags l.k
