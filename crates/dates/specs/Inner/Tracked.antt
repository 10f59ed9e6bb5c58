-- Several settled rules, each with its row of flags in one list.
use Rattle.std.specs.Prelude.{ℕ, ◌+◌, ◌*◌, ◌<◌, ◌≤◌, Bool, false, ◌||◌, List, [], ◌∷◌, length, take, drop}
use Rattle.rule.specs.Gives.{end_day}
use Rattle.matcher.specs.Inner.Layout.{row_size}
use Rattle.track.specs.declared.Track.{Track}
use Rattle.track.specs.Inner.Runs.{has_day, marked}
use Rattle.dates.specs.declared.Tracks.{Tracks}

-- Some rule has the day d.
unfoldable pub some_has : List Track → List Bool → ℕ → ℕ → Bool
some_has [] flags begin d = false
some_has (t ∷ ts) flags begin d = has_day t (take row_size flags) begin d || some_has ts (drop row_size flags) begin d

-- One rule after the other marks its days in a run.
unfoldable pub mark_each : List Track → List Bool → Bool → ℕ → ℕ → List Bool → List Bool
mark_each [] flags value first begin hits = hits
mark_each (t ∷ ts) flags value first begin hits =
    mark_each ts (drop row_size flags) value first begin (marked (has_day t (take row_size flags) begin) value first hits)

abbrev pub Weeks : List Track → Type 0
Weeks [] = Unit {0}
Weeks (t ∷ ts) = (t.terms.first < 7) × Weeks ts

abbrev pub tracks_of : Tracks → List Track
tracks_of ts = take ts.count ts.list

-- The rules of a list with their flags.
pub record Tracked (ts : Tracks) (flags : ℕ) : Type 0 where
  pub list : ts.count ≤ length ts.list
  pub rows : row_size * ts.count ≤ flags
  pub few : ts.count ≤ 8
  pub weeks : Weeks (tracks_of ts)

-- A run of n days from `first` on lies in the profile.
pub record Run (first n : ℕ) : Type 0 where
  pub low : 366 ≤ first
  pub high : first + n ≤ end_day
