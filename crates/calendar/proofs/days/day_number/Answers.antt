-- `calendar::days::day_number` meets its contract. A day number fits, since it lies within the calendar.
use native.Mathlib.Omega.{arith}
use Rattle.gregorian.proofs.DayLaws.{parts-of, month-within, day-small}
use Rattle.gregorian.specs.Days.{day_of}
use Rattle.calendar.proofs.days.day_number.Goals as goal

pub year_start-first-requires : goal.year_start-first-requires
year_start-first-requires c = ((parts-of _ c.requires).low, (parts-of _ c.requires).high)

pub month_start-before-requires : goal.month_start-before-requires
month_start-before-requires c = omega (arith, month-within _ (parts-of _ c.requires))

pub overflow_add-result : goal.overflow_add-result
overflow_add-result c = omega (arith, c.year_start-first.ensures, c.month_start-before.ensures, day-small _ (parts-of _ c.requires))

pub overflow_sub-result : goal.overflow_sub-result
overflow_sub-result c = (parts-of _ c.requires).first

pub overflow_add-result-2 : goal.overflow_add-result-2
overflow_add-result-2 c = omega (arith, c.year_start-first.ensures, c.month_start-before.ensures, day-small _ (parts-of _ c.requires))

pub returns : goal.returns
unfolding day_of
returns c = rw (
  ← c.year_start-first.ensures,
  ← c.month_start-before.ensures,
)
