-- `matcher::rows::mark_months` meets its contract: the months written, the start's, or all.
use mathlib.Core.Bool.{true, false}
use mathlib.Core.Path.{sym, ◌∙◌}
use Rattle.matcher.proofs.MadeLaws.{months-made, month-made}
use Rattle.matcher.proofs.rows.mark_months.Goals as goal

pub returns-then-n-gt0 : goal.returns-then-n-gt0
returns-then-n-gt0 c = months-made _ _ c.requires.0 _ _ c.if-n-gt0.true c.mark_each.ensures

pub returns-then-implies_month : goal.returns-then-implies_month
returns-then-implies_month c = month-made _ _ c.requires.0 _ _ true c.if-n-gt0.false (sym c.if-implies_month.true ∙ c.implies_month.ensures) (rw c.from.ensures at c.mark.ensures)

pub returns-else-implies_month : goal.returns-else-implies_month
returns-else-implies_month c = month-made _ _ c.requires.0 _ _ false c.if-n-gt0.false (sym c.if-implies_month.false ∙ c.implies_month.ensures) c.mark_all.ensures
