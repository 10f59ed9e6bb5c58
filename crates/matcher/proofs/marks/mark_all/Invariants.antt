-- `matcher::marks::mark_all` meets its contract. The invariant: the flags so far are set, and the others are as they were.
use Rattle.matcher.proofs.MarkLaws.{AllAt}
use Rattle.matcher.proofs.marks.mark_all.Given as goal

abbrev pub invariant-loop-i : goal.invariant-loop-i
invariant-loop-i l = AllAt l.initial.flags l.at l.i l.flags
