-- Months alike: what a rule has of a month that is set and in step depends only on the month's length and the weekday of its first day.
use Rattle.std.specs.Prelude.{ℕ, ◌+◌, ◌-◌, ◌%◌, ◌<◌, Bool, true, false, List, ◌≡◌, get_or}
use Rattle.rule.specs.declared.Frequency.{Frequency}
use Rattle.rule.specs.declared.Frequency.TheVariants.{Daily, Weekly, Monthly, Yearly}
use Rattle.rule.specs.declared.Day.{Day}
use Rattle.matcher.specs.declared.Terms.{Terms}
use Rattle.matcher.specs.Inner.Layout.{weekdays_at}
use Rattle.matcher.specs.Inner.Walk.{picks_on_by}
use Rattle.months.specs.Inner.Rows.{Kept}
use Rattle.track.specs.Inner.Runs.{marked}

-- A period of whole months.
unfoldable pub is_whole : Frequency → Bool
is_whole Daily = false
is_whole Weekly = false
is_whole Monthly = true
is_whole Yearly = true

-- Every weekday is set without `nthOfPeriod`, the first k of them.
pub record WeekdaysSet (row : List Bool) (k : ℕ) : Type 0 where
  pub each : (w : ℕ) → w < k → get_or row (weekdays_at + w) false ≡ true

-- No weekday's place in the year is asked for, and a month is in step as a whole.
pub record Alike (t : Terms) (row : List Bool) : Type 0 where
  pub weekdays : t.inyear ≡ true → WeekdaysSet row 7
  pub steps : (t.interval ≡ 1 → ⊥) → is_whole t.frequency ≡ true

-- The way that a run is marked: by months alike, or else by days, without set positions.
pub record Way (alike : Bool) (t : Terms) (row : List Bool) : Type 0 where
  pub months : alike ≡ true → Alike t row
  pub positions : alike ≡ true → t.placed ≡ true → t.frequency ≡ Monthly
  pub plain : alike ≡ false → t.placed ≡ false

-- The weekday of the first day of a day's month.
abbrev pub first_weekday : Day → ℕ
first_weekday x = (x.weekday + 36 - x.monthday) % 7

-- Days of one month, from x on, are marked, and the rows of the kinds that were met are kept.
pub record MarkedMonth (t : Terms) (row : List Bool) (x : Day) (value : Bool) (before after rows : List Bool) : Type 0 where
  pub marks : after ≡ marked (picks_on_by t row) value x.number before
  pub kept : Kept t.placed row rows
