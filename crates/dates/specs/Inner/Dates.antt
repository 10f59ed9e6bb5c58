-- What a call keeps of an event's dates: one value, one slice of rows, and the overrides.
use Rattle.std.specs.Prelude.{ℕ, ◌/◌, ◌<◌, Bool, List, ◌≡◌, take, drop}
use Rattle.rule.specs.Gives.{end_day}
use Rattle.matcher.specs.Inner.Layout.{list_size, lists_size}
use Rattle.dates.specs.declared.Dates.{Dates}
use Rattle.dates.specs.Inner.Loaded.{Loaded, loaded, is_in}
use Rattle.dates.specs.Inner.Tracked.{Tracked}

-- The rows of the rules come first, those of the excluded rules after them.
abbrev pub kept_dates : Dates → List Bool → List ℕ → List Bool → Loaded
kept_dates d rows ids gone = loaded d.start d.rules (take list_size rows) d.excluded (drop list_size rows) ids gone

-- The date-time x is in the set.
abbrev pub dates_in : Dates → List Bool → List ℕ → List Bool → ℕ → Bool
dates_in d rows ids gone = is_in (kept_dates d rows ids gone)

-- What is kept of the dates is whole: each rule has its row, each override its mark, and the start lies in the profile.
pub record Whole (d : Dates) (rows ids gone : ℕ) : Type 0 where
  pub size : rows ≡ lists_size
  pub rules_tracked : Tracked d.rules list_size
  pub excluded_tracked : Tracked d.excluded list_size
  pub overrides : ids ≡ gone
  pub begins : d.start / 86400 < end_day
