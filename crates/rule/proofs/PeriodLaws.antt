-- A period and its days.
use Prim.Native.Nat.{ℕ, ◌+◌, ◌-◌, ◌<◌, ◌≤◌}
use mathlib.Core.Path.{◌≡◌, refl}
use native.Mathlib.Omega.{arith}
use Rattle.gregorian.specs.Days.{day_count}
use Rattle.rule.specs.declared.Frequency.{Frequency}
use Rattle.rule.specs.declared.Frequency.TheVariants.{Daily, Weekly, Monthly, Yearly}
use Rattle.rule.specs.Day.{on_date, day_at}
use Rattle.rule.specs.Gives.{end_day}
use Rattle.rule.specs.Period.{since_first, days_of}
use Rattle.rule.proofs.DayLaws.{day-facts, year-within}

pub day-number : (n : ℕ) → (day_at n).number ≡ n
unfolding day_at on_date
day-number n = refl

module _ (w n : ℕ) (h : n < day_count) where
  pub since-in : (f : Frequency) → since_first f w (day_at n) < days_of f (day_at n)
  unfolding since_first days_of
  since-in Daily = omega arith
  since-in Weekly = omega arith
  since-in Monthly = let f = day-facts n h in omega (arith, f.monthday_low, f.monthday_high)
  since-in Yearly = (day-facts n h).yearday

  pub days-most : (f : Frequency) → days_of f (day_at n) ≤ 366
  unfolding days_of
  days-most Daily = omega arith
  days-most Weekly = omega arith
  days-most Monthly = omega (arith, (day-facts n h).monthdays)
  days-most Yearly = (day-facts n h).yeardays

  -- a period of a day before 9999 ends before the calendar does
  pub period-within : n < end_day → 366 ≤ n → (f : Frequency) → n - since_first f w (day_at n) + days_of f (day_at n) < day_count
  unfolding since_first days_of
  period-within before low Daily = omega arith
  period-within before low Weekly = omega arith
  period-within before low Monthly = omega (arith, (day-facts n h).monthdays)
  period-within before low Yearly = omega (arith, year-within n h before)
