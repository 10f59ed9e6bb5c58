-- What the code keeps of an event stands for it: each rule is settled, and the overrides are the event's.
use Rattle.std.specs.Prelude.{ℕ, ◌≤◌, Bool, true, false, List, [], ◌∷◌, ◌≡◌, take, drop}
use Rattle.rule.specs.Written.{RecurrenceRule}
use Rattle.rule.specs.Gives.{end_day}
use Rattle.matcher.specs.Inner.Layout.{row_size}
use Rattle.track.specs.declared.Track.{Track}
use Rattle.track.specs.Inner.Settle.{Settled}
use Rattle.recurrence.specs.Event.{Override, Event}
use Rattle.dates.specs.Inner.Loaded.{Loaded}

abbrev pub Settles : Bool → ℕ → ℕ → List RecurrenceRule → List Track → List Bool → Type 0
Settles excluded start limit [] [] flags = Unit {0}
Settles excluded start limit [] (t ∷ ts) flags = ⊥
Settles excluded start limit (r ∷ rs) [] flags = ⊥
Settles excluded start limit (r ∷ rs) (t ∷ ts) flags =
    Settled excluded start limit r (take row_size flags) t × Settles excluded start limit rs ts (drop row_size flags)

unfoldable pub overrides_of : List ℕ → List Bool → List Override
overrides_of [] gone = []
overrides_of (i ∷ ids) [] = []
overrides_of (i ∷ ids) (g ∷ gone) = record { id = i; excluded = g } ∷ overrides_of ids gone

-- Days before `limit` may be asked for.
pub record Stands (e : Event) (limit : ℕ) (l : Loaded) : Type 0 where
  pub start : l.start ≡ e.start
  pub within : limit ≤ end_day
  pub rules : Settles false l.start limit e.rules l.rules l.rule_flags
  pub excluded : Settles true l.start limit e.excluded_rules l.excluded l.excluded_flags
  pub overrides : e.overrides ≡ overrides_of l.ids l.gone
