-- Years of one kind: of one length, beginning on one weekday, at one distance from a period in step.
use Rattle.std.specs.Prelude.{if◌then◌else◌, ℕ, ◌+◌, ◌-◌, ◌*◌, ◌/◌, ◌%◌, ◌<◌, ◌≤◌, Bool, true, false, not, List, ◌≡◌, eqb, leb, ltb, length, get_or}
use Rattle.std.proofs.Math.Option.{none}
use Rattle.rule.specs.declared.Frequency.{Frequency}
use Rattle.rule.specs.declared.Frequency.TheVariants.{Daily, Weekly, Monthly, Yearly}
use Rattle.rule.specs.declared.Day.{Day}
use Rattle.rule.specs.declared.End.{End}
use Rattle.rule.specs.Day.{day_at}
use Rattle.rule.specs.Lists.{count_in}
use Rattle.rule.specs.Period.{period_of}
use Rattle.rule.specs.Inner.Read.{until_from}
use Rattle.rule.specs.Gives.{end_day}
use Rattle.matcher.specs.declared.Terms.{Terms}
use Rattle.matcher.specs.Inner.Layout.{row_size}

-- A year tells which of its days have a set position.
unfoldable pub owns_places : Frequency → Bool → Bool → Bool
owns_places Daily placed in_year = true
owns_places Weekly placed in_year = if placed then not in_year else true
owns_places Monthly placed in_year = true
owns_places Yearly placed in_year = true

-- Its kind tells which days of a year the rule has.
unfoldable pub is_alike : Terms → Bool
is_alike t =
    if eqb t.interval 0 then false
    else if ltb 512 t.interval then false
    else owns_places t.frequency t.placed t.inyear

-- There are enough days to make the kinds worth while.
unfoldable pub is_far : Bool → ℕ → Bool
is_far placed left = if placed then leb 12000 left else leb 100000 left

-- The first day of a year.
pub record NewYear (x : Day) : Type 0 where
  pub day : x ≡ day_at x.number
  pub yearday : x.yearday ≡ 0
  pub month : x.month ≡ 1
  pub monthday : x.monthday ≡ 1
  pub monthdays : x.monthdays ≡ 31

-- How far the period of a day lies after one in step.
unfoldable pub phase_of : Terms → Day → ℕ
phase_of t x = (period_of t.frequency t.first x - t.period) % t.interval

unfoldable pub slot_of : Terms → Day → ℕ
slot_of t x = 512 * (7 * (x.yeardays - 365) + x.weekday) + phase_of t x

-- No month of a year is in step, by how far the period of its first day lies after one in step.
unfoldable pub idle_in : Frequency → ℕ → ℕ → Bool
idle_in Daily interval phase = false
idle_in Weekly interval phase = false
idle_in Monthly interval phase = if eqb phase 0 then false else leb 12 (interval - phase)
idle_in Yearly interval phase = false

unfoldable pub is_idle : Terms → Day → Bool
is_idle t x = if ltb t.interval 12 then false else idle_in t.frequency t.interval (phase_of t x)

-- Some of the days that are left.
pub record Some (left n : ℕ) : Type 0 where
  pub more : 1 ≤ n
  pub most : n ≤ left

-- The first day of a year of the profile, not before the rule's first period.
pub record YearBegins (t : Terms) (x : Day) : Type 0 where
  pub new : NewYear x
  pub week : t.first < 7
  pub begun : t.period ≤ period_of t.frequency t.first x
  pub low : 366 ≤ x.number
  pub high : x.number < end_day

-- A rule that has the same days in years of one kind; there are few enough distances from a period in step.
pub record Alike (t : Terms) : Type 0 where
  pub some_periods : 1 ≤ t.interval
  pub few : t.interval ≤ 512
  pub own : owns_places t.frequency t.placed t.inyear ≡ true

-- n days of the profile from x on, none before the start.
pub record Spanning (t : Terms) (row start : ℕ) (x : Day) (n : ℕ) : Type 0 where
  pub row_length : row ≡ row_size
  pub week : t.first < 7
  pub day : x ≡ day_at x.number
  pub low : 366 ≤ x.number
  pub known : x.number + n ≤ end_day
  pub after : start / 86400 ≤ x.number
  pub starts : start / 86400 < end_day

-- A year after the start of a rule that only its count ends.
pub record YearAsked (end : End) (t : Terms) (row start : ℕ) (x : Day) : Type 0 where
  pub row_length : row ≡ row_size
  pub begins : YearBegins t x
  pub after : start / 86400 < x.number
  pub endless : until_from end ≡ none

-- What is kept of each kind of years after the first day: 0, or one more than the days of such a year that pass.
pub record Kept (p : ℕ → Bool) (t : Terms) (first : ℕ) (known : List ℕ) : Type 0 where
  pub size : length known ≡ 7168
  pub days : (x : Day) → YearBegins t x → first < x.number → 0 < get_or known (slot_of t x) 0
      → get_or known (slot_of t x) 0 ≡ count_in p x.number x.yeardays + 1
