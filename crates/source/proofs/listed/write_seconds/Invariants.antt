-- `source::listed::write_seconds` meets its contract. The invariant: the seconds of the days so far stand in the slice.
use Rattle.source.proofs.ListedLaws.{SecondsAt}
use Rattle.source.proofs.listed.write_seconds.Given as goal

abbrev pub invariant-loop-k : goal.invariant-loop-k
invariant-loop-k l = SecondsAt l.start l.days l.initial.out l.out l.k
