-- `matcher::rows::mark_row` meets its contract: the four lists, one after the other.
use Rattle.matcher.proofs.MadeLaws.{row_made}
use Rattle.matcher.proofs.rows.mark_row.Goals as goal

pub returns : goal.returns
returns c = row_made _ _ _ _ _ _ _ c.mark_months.ensures c.mark_dates.ensures c.mark_weekdays.ensures c.mark_places.ensures
