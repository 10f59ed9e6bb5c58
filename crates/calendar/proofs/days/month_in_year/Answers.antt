-- `calendar::days::month_in_year` meets its contract.
use Rattle.calendar.proofs.WithinLaws.{month-asks, month-here, month-after}
use Rattle.calendar.proofs.days.month_in_year.Goals as goal

pub month_start-requires : goal.month_start-requires
month_start-requires c = month-asks _ _ c.requires

pub returns-then-month_start-r : goal.returns-then-month_start-r
returns-then-month_start-r c = month-after _ _ c.requires (rw c.month_start.ensures at c.if-month_start-r.true)

pub returns : goal.returns
returns c = month-here _ _ c.requires (rw c.month_start.ensures at c.if-month_start-r.false)
