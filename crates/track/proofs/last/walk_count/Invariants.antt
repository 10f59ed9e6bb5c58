-- `track::last::walk_count` meets its contract. The invariant: from here on the walk ends where it ends from the start on.
use Rattle.track.specs.Inner.Steps.{cursor_at}
use Rattle.track.specs.Inner.Ahead.{EndAt}
use Rattle.matcher.specs.Inner.Member.{falls_on_by}
use Prim.Native.Nat.{◌/◌}
use mathlib.Core.Path.{◌≡◌}
use Rattle.track.proofs.last.walk_count.Given as goal

abbrev pub invariant-loop-left : goal.invariant-loop-left
invariant-loop-left l = (l.c ≡ cursor_at l.terms l.flags l.c.day.number) × EndAt (falls_on_by l.excluded l.end l.terms l.flags l.start) (l.start / 86400) l.limit l.count l.c.day.number l.left l.more

abbrev pub decreases-loop-left : goal.decreases-loop-left
decreases-loop-left l = l.left
