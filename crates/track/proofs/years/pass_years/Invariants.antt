-- `track::years::pass_years` meets its contract. The invariant: from here on the count ends where it ends from the beginning on, and what
-- is kept of the years is right.
use Rattle.track.specs.Inner.Ahead.{EndAt}
use Rattle.track.specs.Inner.Years.{NewYear, Kept}
use Rattle.matcher.specs.Inner.Member.{falls_on_by}
use Prim.Native.Nat.{◌+◌, ◌/◌, ◌<◌}
use Rattle.track.proofs.years.pass_years.Given as goal

abbrev pub invariant-loop-left : goal.invariant-loop-left
invariant-loop-left l = (NewYear l.x × (l.start / 86400 < l.x.number))
    × (EndAt (falls_on_by l.excluded l.end l.terms l.flags l.start) l.initial.x.number (l.initial.x.number + l.initial.left) l.initial.more l.x.number l.left l.more
    × Kept (falls_on_by l.excluded l.end l.terms l.flags l.start) l.terms (l.start / 86400) l.known)

abbrev pub decreases-loop-left : goal.decreases-loop-left
decreases-loop-left l = l.left
