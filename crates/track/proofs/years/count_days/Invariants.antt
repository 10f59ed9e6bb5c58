-- `track::years::count_days` meets its contract. The invariant: what was found, and what the days left hold, make the whole.
use Rattle.track.proofs.AheadLaws.{Tally}
use Rattle.track.specs.Inner.Steps.{cursor_at}
use Rattle.matcher.specs.Inner.Member.{falls_on_by}
use Rattle.rule.specs.Gives.{end_day}
use Prim.Native.Nat.{◌+◌, ◌/◌, ◌≤◌}
use mathlib.Core.Path.{◌≡◌}
use Rattle.track.proofs.years.count_days.Given as goal

abbrev pub invariant-loop-left : goal.invariant-loop-left
invariant-loop-left l = (l.c ≡ cursor_at l.terms l.flags l.c.day.number)
    × (Tally (falls_on_by l.excluded l.end l.terms l.flags l.start) l.initial.c.day.number l.n l.c.day.number l.left l.found
    × ((l.start / 86400 ≤ l.initial.c.day.number) × ((366 ≤ l.initial.c.day.number) × (l.initial.c.day.number + l.n ≤ end_day))))

abbrev pub decreases-loop-left : goal.decreases-loop-left
decreases-loop-left l = l.left
