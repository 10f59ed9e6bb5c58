-- `matcher::marks::mark_days` meets its contract: what is marked from here on is what is marked from the start on.
use lib.ListN.{length}
use Rattle.matcher.proofs.MarkLaws.{DaysAt}
use Rattle.matcher.proofs.marks.mark_days.Given as goal

abbrev pub invariant-loop-weekday : goal.invariant-loop-weekday
invariant-loop-weekday l = DaysAt l.initial.flags l.weekdays l.nths l.flags (length l.yielded)
