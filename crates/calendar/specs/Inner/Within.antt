-- What the steps from a day to its date find.
use Rattle.std.specs.Prelude.{ℕ, suc, ◌<◌, ◌≤◌}
use Rattle.gregorian.specs.Year.{first_of_year}
use Rattle.gregorian.specs.Month.{month_start}

-- Year k of a cycle holds the cycle's day r.
pub record HoldsDay (k r : ℕ) : Type 0 where
  pub low : first_of_year k ≤ r
  pub high : r < first_of_year (suc k)
  pub cycle : k < 400

-- Month m of the year y holds day r of the year, counted from 0.
pub record HoldsDayOfYear (y m r : ℕ) : Type 0 where
  pub low : month_start y m ≤ r
  pub high : r < month_start y (suc m)
  pub first : 1 ≤ m
  pub last : m ≤ 12
