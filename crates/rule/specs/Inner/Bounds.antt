-- The parts of a day of the calendar, within their bounds.
use Rattle.std.specs.Prelude.{◌<◌, ◌≤◌}
use Rattle.rule.specs.declared.Day.{Day}

pub record InCalendar (x : Day) : Type 0 where
  pub weekday : x.weekday < 7
  pub year_low : 1600 ≤ x.year
  pub year_high : x.year ≤ 9999
  pub yearday : x.yearday < x.yeardays
  pub yeardays : x.yeardays ≤ 366
  pub month_low : 1 ≤ x.month
  pub month_high : x.month ≤ 12
  pub monthday_low : 1 ≤ x.monthday
  pub monthday_high : x.monthday ≤ x.monthdays
  pub monthdays : x.monthdays ≤ 31
