-- Days that surely are none of a rule's, so that they are passed at once.
use Rattle.std.specs.Prelude.{ℕ, ◌+◌, ◌-◌, ◌*◌, ◌%◌, ◌^◌, ◌<◌, ◌≤◌, Bool, false, List, ◌≡◌, eqb, get_or}
use Rattle.rule.specs.declared.Frequency.{Frequency}
use Rattle.rule.specs.declared.Frequency.TheVariants.{Daily, Weekly, Monthly, Yearly}
use Rattle.rule.specs.declared.Day.{Day}
use Rattle.rule.specs.Day.{day_at}
use Rattle.matcher.specs.declared.Terms.{Terms}
use Rattle.matcher.specs.Inner.Flags.{month_by}
use Rattle.matcher.specs.Inner.Walk.{step_by}

-- None of the n numbers from d on passes.
pub record Without (p : ℕ → Bool) (d n : ℕ) : Type 0 where
  pub none : (j : ℕ) → d ≤ j → j < d + n → p j ≡ false
  pub few : n < 2 ^ 31

-- The next number to look at is n after d: none of those between passes.
pub record Between (p : ℕ → Bool) (d n : ℕ) : Type 0 where
  pub none : (j : ℕ) → d < j → j < d + n → p j ≡ false
  pub more : 1 ≤ n
  pub few : n < 2 ^ 31

-- A period by its number, and a day by its own, is in step.
unfoldable pub step_at : Terms → ℕ → Bool
step_at t p = eqb ((p - t.period) % t.interval) 0

unfoldable pub step_on : Terms → ℕ → Bool
step_on t n = step_by t (day_at n)

unfoldable pub month_on : List Bool → ℕ → Bool
month_on row n = month_by row (day_at n)

-- None of the months from a on and before b is set; 13 stands for the end of the year.
pub record MonthsUnset (row : List Bool) (a b : ℕ) : Type 0 where
  pub low : a ≤ b
  pub high : b ≤ 13
  pub none : (i : ℕ) → a ≤ i → i < b → get_or row i false ≡ false

-- The days from x to the end of its month.
unfoldable pub to_month_end : Day → ℕ
to_month_end x = x.monthdays + 1 - x.monthday

-- The days from x on that lie in its own period and the n - 1 after it, as far as they are counted: all of them of days and weeks,
-- which have one length, and those of its own month or year of the others.
unfoldable pub days_ahead : Frequency → ℕ → ℕ → Day → ℕ
days_ahead Daily w n x = n
days_ahead Weekly w n x = 7 * n - (x.number + 12 - w) % 7
days_ahead Monthly w n x = to_month_end x
days_ahead Yearly w n x = x.yeardays - x.yearday

-- A rule counts positions in years.
unfoldable pub is_carried : Frequency → Bool → Bool
is_carried Daily placed = false
is_carried Weekly placed = false
is_carried Monthly placed = false
is_carried Yearly placed = placed
