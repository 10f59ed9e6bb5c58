-- The row of flags of a rule, as the code keeps it. proofs/ show that it says what the rule's by-lists say.
use Rattle.std.specs.Prelude.{if◌then◌else◌, ℕ, ◌+◌, ◌-◌, ◌*◌, ◌/◌, ◌<◌, ◌≤◌, Bool, true, false, List, ◌≡◌, get_or}
use Rattle.rule.specs.declared.Day.{Day}
use Rattle.matcher.specs.Inner.Layout.{row_size, dates_at, dates_back, weekdays_at, nths_at, nths_back}

abbrev pub Row : ℕ → Type 0
Row n = n ≡ row_size

-- A place of n places, from 1, that has a flag by its number and one by its number from the end.
pub record Places (total on back place n : ℕ) : Type 0 where
  pub low : 1 ≤ place
  pub high : place ≤ n
  pub small : n ≤ 366
  pub on_row : on + n < total
  pub back_row : back + n < total
  pub row : total ≤ row_size

unfoldable pub named : List Bool → ℕ → ℕ → ℕ → ℕ → Bool
named fl on back place n = if get_or fl (on + place) false then true else get_or fl (back + (n + 1 - place)) false

unfoldable pub nth_by : List Bool → ℕ → ℕ → ℕ → Bool
nth_by fl weekday before n =
    named fl (nths_at + 54 * weekday) (nths_back + 54 * weekday) (before / 7 + 1) (before / 7 + 1 + (n - (before + 1)) / 7)

unfoldable pub month_by : List Bool → Day → Bool
month_by fl x = get_or fl x.month false

unfoldable pub date_by : List Bool → Day → Bool
date_by fl x = named fl dates_at dates_back x.monthday x.monthdays

unfoldable pub day_by : List Bool → Bool → Day → Bool
day_by fl in_year x =
    if get_or fl (weekdays_at + x.weekday) false then true
    else if in_year then nth_by fl x.weekday x.yearday x.yeardays
    else nth_by fl x.weekday (x.monthday - 1) x.monthdays

unfoldable pub stays_by : List Bool → Bool → Day → Bool
stays_by fl in_year x = if month_by fl x then (if date_by fl x then day_by fl in_year x else false) else false
