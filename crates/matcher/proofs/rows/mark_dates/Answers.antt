-- `matcher::rows::mark_dates` meets its contract: the days of the month written, the start's, or all.
use mathlib.Core.Path.{sym, ◌∙◌}
use Rattle.matcher.proofs.MadeLaws.{dates-made, date-made, dates-absent}
use Rattle.matcher.proofs.rows.mark_dates.Goals as goal

pub returns-then-n-gt0 : goal.returns-then-n-gt0
returns-then-n-gt0 c = dates-made _ _ c.requires.0 _ _ c.if-n-gt0.true c.mark_places.ensures

pub returns-then-implies_date : goal.returns-then-implies_date
returns-then-implies_date c = date-made _ _ c.requires.0 _ _ _ c.if-n-gt0.false (sym c.if-implies_date.true ∙ c.implies_date.ensures) (rw c.from.ensures at c.mark.ensures) c.mark-then-implies_date.ensures

pub returns-else-implies_date : goal.returns-else-implies_date
returns-else-implies_date c = dates-absent _ _ c.requires.0 _ _ c.if-n-gt0.false (sym c.if-implies_date.false ∙ c.implies_date.ensures) c.mark_all.ensures
