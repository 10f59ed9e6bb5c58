-- `matcher::rows::mark_weekdays` meets its contract: the weekdays written, the start's, or all.
use mathlib.Core.Bool.{true, false}
use mathlib.Core.Path.{sym, ◌∙◌}
use Rattle.matcher.proofs.MadeLaws.{days-made, day-made}
use Rattle.matcher.proofs.rows.mark_weekdays.Goals as goal

pub returns-then-n-gt0 : goal.returns-then-n-gt0
returns-then-n-gt0 c = days-made _ _ c.requires.0 _ _ c.if-n-gt0.true c.mark_days.ensures

pub returns-then-implies_day : goal.returns-then-implies_day
returns-then-implies_day c = day-made _ _ c.requires.0 _ _ true c.if-n-gt0.false (sym c.if-implies_day.true ∙ c.implies_day.ensures) (rw c.from.ensures at c.mark.ensures)

pub returns-else-implies_day : goal.returns-else-implies_day
returns-else-implies_day c = day-made _ _ c.requires.0 _ _ false c.if-n-gt0.false (sym c.if-implies_day.false ∙ c.implies_day.ensures) c.mark_all.ensures
