-- `calendar::days::year_in_cycle` meets its contract.
use Rattle.calendar.proofs.WithinLaws.{year-here, year-next}
use Rattle.calendar.proofs.days.year_in_cycle.Goals as goal

pub returns-then-first_in_cycle-r : goal.returns-then-first_in_cycle-r
returns-then-first_in_cycle-r c = year-next _ c.requires (rw c.first_in_cycle.ensures at c.if-first_in_cycle-r.true)

pub returns : goal.returns
returns c = year-here _ c.requires (rw c.first_in_cycle.ensures at c.if-first_in_cycle-r.false)
