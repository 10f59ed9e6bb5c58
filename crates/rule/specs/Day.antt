-- A day by its number, counted from 1600-01-01, with all that a rule asks of it.
use Rattle.std.specs.Prelude.{ℕ, ◌+◌, ◌-◌}
use Rattle.gregorian.specs.declared.Date.{Date}
use Rattle.gregorian.specs.Year.{year_length}
use Rattle.gregorian.specs.Month.{month_length, month_start}
use Rattle.gregorian.specs.Days.{date_of, weekday_of}
use Rattle.rule.specs.declared.Day.{Day}

unfoldable pub on_date : ℕ → Date → Day
on_date n t =
    record {
      number = n;
      weekday = weekday_of n;
      year = t.year;
      yearday = month_start t.year t.month + (t.day - 1);
      yeardays = year_length t.year;
      month = t.month;
      monthday = t.day;
      monthdays = month_length t.year t.month;
    }

unfoldable pub day_at : ℕ → Day
day_at n = on_date n (date_of n)
