-- `listing::days::list_days` meets its contract. The invariant: the days so far stand in the list, and what is kept of the kinds of months is right.
use Rattle.listing.proofs.DayLaws.{DaysAt}
use Rattle.listing.specs.Inner.Parts.{Kinds}
use Rattle.rule.specs.Day.{day_at}
use Rattle.matcher.specs.Inner.Walk.{picks_on_by}
use Prim.Native.Nat.{◌-◌}
use mathlib.Core.Path.{◌≡◌}
use Rattle.listing.proofs.days.list_days.Given as goal

abbrev pub invariant-loop-day : goal.invariant-loop-day
invariant-loop-day l = (l.x ≡ day_at l.day) × (DaysAt (picks_on_by l.terms l.flags) l.first l.end l.initial.days l.at l.days l.day l.count × Kinds l.terms l.flags l.rows l.lists)

abbrev pub decreases-loop-day : goal.decreases-loop-day
decreases-loop-day l = l.end - l.day
