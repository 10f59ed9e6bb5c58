-- `matcher::marks::mark_each` meets its contract: what is marked from here on is what is marked from the start on.
use Rattle.matcher.proofs.MarkLaws.{EachAt}
use Rattle.matcher.proofs.marks.mark_each.Given as goal

abbrev pub invariant-loop-i : goal.invariant-loop-i
invariant-loop-i l = EachAt l.initial.flags l.at l.limit l.list l.flags l.i-index
