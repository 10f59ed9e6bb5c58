-- `track::runs::mark_placed` meets its contract. The invariant: what is marked, and what is left to mark, make the whole.
use Rattle.track.proofs.RunLaws.{MarkAt}
use Rattle.track.specs.Inner.Steps.{cursor_at}
use Rattle.matcher.specs.Inner.Walk.{picks_on_by}
use lib.ListN.{length}
use Prim.Native.Nat.{◌+◌, ◌-◌}
use mathlib.Core.Path.{◌≡◌}
use Rattle.track.proofs.runs.mark_placed.Given as goal

abbrev pub invariant-loop-i : goal.invariant-loop-i
invariant-loop-i l = (l.c ≡ cursor_at l.terms l.flags (l.first + l.i)) × MarkAt (picks_on_by l.terms l.flags) l.value l.first l.initial.hits l.hits l.i

abbrev pub decreases-loop-i : goal.decreases-loop-i
decreases-loop-i l = length l.hits - l.i
