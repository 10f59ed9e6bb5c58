-- `calendar::days::date_of` meets its contract: it is the date whose day number is the day, and there is only one.
use Rattle.calendar.proofs.WithinLaws.{rest-within, made-date}
use Rattle.calendar.proofs.days.date_of.Goals as goal

pub month_in_year-month-requires : goal.month_in_year-month-requires
month_in_year-month-requires c = rw c.first_in_cycle.ensures (rest-within _ _ c.requires c.year_in_cycle-k.ensures)

pub returns : goal.returns
returns c = rw (c.month_start-before.ensures, c.first_in_cycle.ensures)
    (made-date _ _ c.requires c.year_in_cycle-k.ensures _ (rw c.first_in_cycle.ensures at c.month_in_year-month.ensures))
