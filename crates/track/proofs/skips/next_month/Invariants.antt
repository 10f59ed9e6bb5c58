-- `track::skips::next_month` meets its contract. The invariant: the months before the next one are not set.
use Rattle.track.specs.Inner.Skips.{MonthsUnset}
use Rattle.track.proofs.skips.next_month.Given as goal

abbrev pub invariant-loop-next : goal.invariant-loop-next
invariant-loop-next l = MonthsUnset l.flags l.month l.next
