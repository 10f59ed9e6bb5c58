-- 01, 1: "Periods are whole days, weeks from `firstDayOfWeek`, months or years. The first holds the start; then every interval-th."
use Rattle.std.specs.Prelude.{ℕ, ◌+◌, ◌-◌, ◌*◌, ◌/◌, ◌%◌, Bool, eqb}
use Rattle.rule.specs.declared.Frequency.{Frequency}
use Rattle.rule.specs.declared.Frequency.TheVariants.{Daily, Weekly, Monthly, Yearly}
use Rattle.rule.specs.declared.Day.{Day}
use Rattle.rule.specs.Written.{RecurrenceRule}

-- The number of the period that holds a day; the next period has the next number. Weeks begin on the weekday w, 0 to 6, Monday is 0. Day 0 is
-- 1600-01-01, a Saturday, and day 2 a Monday, so day n has the weekday w where n is 2 + w and a number of weeks: where 7 divides n + 12 - w.
unfoldable pub period_of : Frequency → ℕ → Day → ℕ
period_of Daily w d = d.number
period_of Weekly w d = (d.number + 12 - w) / 7
period_of Monthly w d = 12 * d.year + d.month
period_of Yearly w d = d.year

-- The days of its period before a day.
unfoldable pub since_first : Frequency → ℕ → Day → ℕ
since_first Daily w d = 0
since_first Weekly w d = (d.number + 12 - w) % 7
since_first Monthly w d = d.monthday - 1
since_first Yearly w d = d.yearday

-- All days of its period.
unfoldable pub days_of : Frequency → Day → ℕ
days_of Daily d = 1
days_of Weekly d = 7
days_of Monthly d = d.monthdays
days_of Yearly d = d.yeardays

-- The day's period is the start's or comes a multiple of the interval later.
unfoldable pub in_step : RecurrenceRule → Day → Day → Bool
in_step r s d =
    eqb ((period_of r.frequency r.first_day_of_week d - period_of r.frequency r.first_day_of_week s) % r.interval) 0
