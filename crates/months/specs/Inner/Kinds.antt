-- What a month has of a rule, where the rule has the month: by its length and the weekday of its first day.
use Rattle.std.specs.Prelude.{if◌then◌else◌, ℕ, ◌+◌, ◌%◌, ◌<◌, ◌≤◌, Bool, true, false, List, get_or}
use Rattle.rule.specs.Lists.{count_in}
use Rattle.matcher.specs.Inner.Flags.{named, nth_by}
use Rattle.matcher.specs.Inner.Layout.{dates_at, dates_back, weekdays_at, positions_at, positions_back}

-- A month's length, and the weekday of its first day.
pub record Kind (weekday days : ℕ) : Type 0 where
  pub week : weekday < 7
  pub low : 28 ≤ days
  pub high : days ≤ 31

-- Day k, from 0, of a month of that kind stays.
unfoldable pub stays_in : List Bool → ℕ → ℕ → ℕ → Bool
stays_in fl weekday days k =
    let nth = nth_by fl ((weekday + k) % 7) k days in
    if named fl dates_at dates_back (k + 1) days then (if get_or fl (weekdays_at + (weekday + k) % 7) false then true else nth) else false

-- Of n days, of which some stay, the set positions choose day k.
unfoldable pub chosen_in : List Bool → (ℕ → Bool) → ℕ → ℕ → Bool
chosen_in fl stays n k = if stays k then named fl positions_at positions_back (count_in stays 0 k + 1) (count_in stays 0 n) else false

unfoldable pub picks_in : Bool → List Bool → ℕ → ℕ → ℕ → Bool
picks_in placed fl weekday days k =
    let chosen = chosen_in fl (stays_in fl weekday days) days k in
    if placed then chosen else stays_in fl weekday days k
