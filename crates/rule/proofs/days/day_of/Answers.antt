-- `rule::days::day_of` meets its contract: the parts of the date that is looked up.
use Rattle.rule.specs.Day.{day_at, on_date}
use Rattle.rule.proofs.DayLaws.{looked-up-month, looked-up-day, looked-up-fits}
use Rattle.rule.proofs.days.day_of.Goals as goal

pub month_start-requires : goal.month_start-requires
month_start-requires c = looked-up-month _ c.requires _ c.date_of-year.ensures

pub overflow_sub-result : goal.overflow_sub-result
overflow_sub-result c = looked-up-day _ c.requires _ c.date_of-year.ensures

pub overflow_add-result : goal.overflow_add-result
overflow_add-result c = record { fits = looked-up-fits _ c.requires _ c.date_of-year.ensures _ c.month_start.ensures }

pub returns : goal.returns
unfolding day_at on_date
returns c = rw (
  ← c.date_of-year.ensures,
  ← c.month_start.ensures,
  ← c.year_length.ensures,
  ← c.month_length.ensures,
  ← c.weekday.ensures,
)
