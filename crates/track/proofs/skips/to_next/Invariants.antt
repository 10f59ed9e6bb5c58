-- `track::skips::to_next` meets its contract. The invariant: no day between this one and the k-th after it is picked.
use Rattle.track.specs.Inner.Skips.{Between}
use Rattle.matcher.specs.Inner.Walk.{picks_on_by}
use Rattle.track.proofs.skips.to_next.Given as goal

abbrev pub invariant-loop-k : goal.invariant-loop-k
invariant-loop-k l = Between (picks_on_by l.terms l.flags) l.x.number l.k
