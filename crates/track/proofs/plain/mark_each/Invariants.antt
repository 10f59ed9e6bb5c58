-- `track::plain::mark_each` meets its contract. The invariant: what is marked, and what is left to mark, make the whole.
use Rattle.track.proofs.RunLaws.{MarkAt}
use Rattle.matcher.specs.Inner.Walk.{picks_on_by}
use Rattle.track.proofs.plain.mark_each.Given as goal

abbrev pub invariant-loop-k : goal.invariant-loop-k
invariant-loop-k l = MarkAt (picks_on_by l.terms l.flags) l.value l.x.number l.initial.hits l.hits l.k
