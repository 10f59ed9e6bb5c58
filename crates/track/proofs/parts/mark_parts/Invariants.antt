-- `track::parts::mark_parts` meets its contract. The invariant: what is marked, and what is left to mark, make the whole, and the rows that are kept are right.
use Rattle.track.proofs.RunLaws.{MarkAt}
use Rattle.rule.specs.Day.{day_at}
use Rattle.matcher.specs.Inner.Walk.{picks_on_by}
use Rattle.months.specs.Inner.Rows.{Kept}
use lib.ListN.{length}
use Prim.Native.Nat.{◌+◌, ◌-◌}
use mathlib.Core.Path.{◌≡◌}
use Rattle.track.proofs.parts.mark_parts.Given as goal

abbrev pub invariant-loop-i : goal.invariant-loop-i
invariant-loop-i l = (l.x ≡ day_at (l.first + l.i)) × (MarkAt (picks_on_by l.terms l.flags) l.value l.first l.initial.hits l.hits l.i × Kept l.terms.placed l.flags l.rows)

abbrev pub decreases-loop-i : goal.decreases-loop-i
decreases-loop-i l = length l.hits - l.i
