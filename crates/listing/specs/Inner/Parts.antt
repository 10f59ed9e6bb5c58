-- The days of a rule in a part of a month, listed.
use Rattle.std.specs.Prelude.{ℕ, ◌+◌, ◌<◌, ◌≤◌, Bool, true, false, List, ◌≡◌, length}
use Rattle.rule.specs.declared.Day.{Day}
use Rattle.rule.specs.declared.Frequency.{Frequency}
use Rattle.rule.specs.declared.Frequency.TheVariants.{Daily, Weekly, Monthly, Yearly}
use Rattle.matcher.specs.declared.Terms.{Terms}
use Rattle.matcher.specs.Inner.Flags.{month_by}
use Rattle.matcher.specs.Inner.Walk.{Asked, step_by, picks_on_by}
use Rattle.months.specs.Inner.Rows.{Kept}
use Rattle.track.specs.Inner.Alike.{Alike}
use Rattle.track.specs.Inner.Plain.{InMonth}
use Rattle.listing.specs.Inner.Lists.{Listed}
use Rattle.listing.specs.Inner.Kinds.{KeptLists}

unfoldable pub is_monthly : Frequency → Bool
is_monthly Daily = false
is_monthly Weekly = false
is_monthly Monthly = true
is_monthly Yearly = false

-- What a rule has of a month depends only on the month's kind; set positions count in months.
pub record ByMonths (t : Terms) (row : List Bool) : Type 0 where
  pub alike : Alike t row
  pub monthly : t.placed ≡ true → t.frequency ≡ Monthly

-- Some days of a month that the rule has, and that is in step.
pub record Chosen (t : Terms) (row : List Bool) (x : Day) (n : ℕ) : Type 0 where
  pub by_months : ByMonths t row
  pub asked : Asked t (length row) x
  pub part : InMonth x n
  pub is_set : month_by row x ≡ true
  pub in_step : step_by t x ≡ true

-- The rows and the lists of the kinds that were met are right.
pub record Kinds (t : Terms) (row rows : List Bool) (lists : List ℕ) : Type 0 where
  pub rows_kept : Kept t.placed row rows
  pub lists_kept : KeptLists t.placed row lists

-- A list with room for a month after a place.
pub record Room (days at : ℕ) : Type 0 where
  pub month : at + 31 ≤ days
  pub small : days < 4294967296

pub record ListedPart (t : Terms) (row : List Bool) (x : Day) (n : ℕ) (rows : List Bool) (lists before : List ℕ) (at : ℕ) (after : List ℕ) (end : ℕ) : Type 0 where
  pub listed : Listed (picks_on_by t row) x.number n before at after end
  pub kinds : Kinds t row rows lists
