-- `calendar::month::month_start` meets its contract: the table is a common year's, and a leap year is one day ahead from March on.
use Prim.Native.Nat.{ℕ, ◌+◌}
use mathlib.Core.Path.{sym, ap, ◌∙◌}
use native.Mathlib.Omega.{arith}
use Rattle.gregorian.specs.Month.{start_in, length_in}
use Rattle.gregorian.proofs.MonthLaws.{start-rule, start-most, month-early, month-leap, month-common}
use Rattle.calendar.proofs.month.month_start.Goals as goal

pub returns-then-month-lt3 : goal.returns-then-month-lt3
unfolding start_in length_in
returns-then-month-lt3 c = start-rule _ c.requires ∙ month-early _ _ c.if-month-lt3.true

pub overflow_add-result : goal.overflow_add-result
unfolding start_in length_in
overflow_add-result c = rw (start-rule _ c.requires) (omega (arith, start-most _ c.requires))

pub returns-then-is_leap : goal.returns-then-is_leap
unfolding start_in length_in
returns-then-is_leap c = ap (λ (n : ℕ). n + 1) (start-rule _ c.requires) ∙ month-leap _ _ (sym c.is_leap.ensures ∙ c.if-is_leap.true) c.if-month-lt3.false

pub returns : goal.returns
unfolding start_in length_in
returns c = start-rule _ c.requires ∙ month-common _ _ (sym c.is_leap.ensures ∙ c.if-is_leap.false)
