-- `matcher::marks::mark_places` meets its contract: what is marked from here on is what is marked from the start on.
use Rattle.matcher.proofs.MarkLaws.{PlacesAt}
use Rattle.matcher.proofs.marks.mark_places.Given as goal

abbrev pub invariant-loop-z : goal.invariant-loop-z
invariant-loop-z l = PlacesAt l.initial.flags l.on l.back l.limit l.list l.flags l.z-index
