-- `calendar::month::month_length` meets its contract: the table is a common year's, and February is told apart.
use Rattle.gregorian.specs.Month.{length_in}
use Rattle.gregorian.proofs.MonthLaws.{month-none, month-february, month-other}
use mathlib.Core.Bool.{true, false}
use mathlib.Core.Path.{sym, ◌∙◌}
use Rattle.calendar.proofs.month.month_length.Goals as goal

pub returns-then-month-gt12 : goal.returns-then-month-gt12
returns-then-month-gt12 c = month-none _ _ c.if-month-gt12.true

pub returns-then-is_leap : goal.returns-then-is_leap
returns-then-is_leap c = month-february _ _ true (sym c.is_leap.ensures ∙ c.if-is_leap.true) c.if-month-eq2.true

pub returns-then-month-eq2 : goal.returns-then-month-eq2
returns-then-month-eq2 c = month-february _ _ false (sym c.is_leap.ensures ∙ c.if-is_leap.false) c.if-month-eq2.true

pub returns : goal.returns
unfolding length_in
returns c = month-other _ _ c.if-month-eq2.false
