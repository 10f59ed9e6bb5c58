-- `track::years::count_span` meets its contract. The invariant: what was found, and what the days left hold, make the whole.
use Rattle.track.proofs.AheadLaws.{Tally}
use Rattle.matcher.specs.Inner.Member.{falls_on_by}
use Rattle.rule.specs.Day.{day_at}
use Rattle.rule.specs.Gives.{end_day}
use Prim.Native.Nat.{◌+◌, ◌/◌, ◌≤◌}
use mathlib.Core.Path.{◌≡◌}
use Rattle.track.proofs.years.count_span.Given as goal

abbrev pub invariant-loop-left : goal.invariant-loop-left
invariant-loop-left l = (l.d ≡ day_at l.d.number)
    × (Tally (falls_on_by l.excluded l.end l.terms l.flags l.start) l.initial.d.number l.n l.d.number l.left l.found
    × ((l.start / 86400 ≤ l.initial.d.number) × ((366 ≤ l.initial.d.number) × (l.initial.d.number + l.n ≤ end_day))))

abbrev pub decreases-loop-left : goal.decreases-loop-left
decreases-loop-left l = l.left
