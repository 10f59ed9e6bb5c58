-- The days of a rule as a list, a chunk at a time.
use Rattle.std.specs.Prelude.{ℕ, ◌+◌, ◌-◌, ◌<◌, ◌≤◌, Bool, List, ◌++◌, ◌≡◌, length, take}
use Rattle.rule.specs.Gives.{end_day}
use Rattle.matcher.specs.declared.Terms.{Terms}
use Rattle.matcher.specs.Inner.Layout.{row_size}
use Rattle.window.specs.Inner.Lists.{list_in}
use Rattle.listing.specs.Inner.Parts.{ByMonths}

-- The days from `first` on and before `end` lie in the profile, the rule goes by months, and the list has `at` entries or more.
pub record Listable (t : Terms) (row : List Bool) (first end at days : ℕ) : Type 0 where
  pub by_months : ByMonths t row
  pub row_length : length row ≡ row_size
  pub week : t.first < 7
  pub low : 366 ≤ first
  pub order : first ≤ end
  pub high : end ≤ end_day
  pub place : at ≤ days
  pub small : days < 4294967296

-- After the first `at` entries of a list stand the days from `first` on and before `next` that pass; `count` is the place after the last. Room
-- for a month is enough to get on.
pub record Stopped (p : ℕ → Bool) (first end : ℕ) (before : List ℕ) (at : ℕ) (after : List ℕ) (count next : ℕ) : Type 0 where
  pub size : length after ≡ length before
  pub few : count ≤ length before
  pub low : first ≤ next
  pub high : next ≤ end
  pub ahead : at + 31 ≤ length before → first < end → first < next
  pub days : take count after ≡ take at before ++ list_in p first (next - first)
