-- `window::sorted::next_sorted` meets its contract.
use Rattle.window.proofs.SortedLaws.{SortedAt}
use Rattle.window.proofs.sorted.next_sorted.Given as goal

abbrev pub invariant-loop-i : goal.invariant-loop-i
invariant-loop-i l = SortedAt l.ids l.gone l.at l.i
