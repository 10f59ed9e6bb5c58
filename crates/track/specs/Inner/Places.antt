-- Set positions that a period has too few days for.
use Rattle.std.specs.Prelude.{ℕ, ◌+◌, ◌<◌, ◌≤◌, Bool, false, List, ◌≡◌, get_or}
use Rattle.rule.specs.declared.Frequency.{Frequency}
use Rattle.rule.specs.declared.Frequency.TheVariants.{Daily, Weekly, Monthly, Yearly}
use Rattle.rule.specs.declared.Day.{Day}
use Rattle.rule.specs.Period.{since_first, days_of}
use Rattle.rule.specs.Gives.{end_day}
use Rattle.matcher.specs.declared.Terms.{Terms}
use Rattle.matcher.specs.Inner.Layout.{positions_at, positions_back}

-- The most days that a period has.
unfoldable pub most_days : Frequency → ℕ
most_days Daily = 1
most_days Weekly = 7
most_days Monthly = 31
most_days Yearly = 366

-- No position before k is set, from the beginning or from the end: a period of fewer than k days has none.
pub record Unset (row : List Bool) (k : ℕ) : Type 0 where
  pub low : 1 ≤ k
  pub on : (j : ℕ) → 1 ≤ j → j < k → get_or row (positions_at + j) false ≡ false
  pub back : (j : ℕ) → 1 ≤ j → j < k → get_or row (positions_back + j) false ≡ false

-- The n days from x on lie in its period and in the profile.
pub record InPeriod (t : Terms) (x : Day) (n : ℕ) : Type 0 where
  pub more : 1 ≤ n
  pub known : x.number + n ≤ end_day
  pub within : since_first t.frequency t.first x + n ≤ days_of t.frequency x
