-- `track::alike::lay` meets its contract. The invariant: what is marked, and what is left to mark, make the whole.
use Rattle.months.specs.Inner.Rows.{answer_at}
use Rattle.track.proofs.RunLaws.{MarkAt}
use Rattle.track.proofs.alike.lay.Given as goal

abbrev pub invariant-loop-k : goal.invariant-loop-k
invariant-loop-k l = MarkAt (answer_at l.rows l.at) l.value 0 l.initial.hits l.hits l.k
