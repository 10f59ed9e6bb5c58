-- `track::ahead::count_month` meets its contract. The invariant: what was found, and what the days left hold, make the whole.
use Rattle.track.proofs.AheadLaws.{CountAt}
use Rattle.matcher.specs.Inner.Member.{falls_on_by}
use Rattle.track.proofs.ahead.count_month.Given as goal

abbrev pub invariant-loop-k : goal.invariant-loop-k
invariant-loop-k l = CountAt (falls_on_by l.excluded l.end l.terms l.flags l.start) l.x.number l.n l.k l.found
