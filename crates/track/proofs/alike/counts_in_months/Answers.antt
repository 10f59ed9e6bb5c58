-- `track::alike::counts_in_months` meets its contract.
use mathlib.Core.Bool.{false≢true}
use mathlib.Core.Path.{sym, ◌∙◌}
use Rattle.track.proofs.alike.counts_in_months.Goals as goal

pub returns-then-not-inyear : goal.returns-then-not-inyear
returns-then-not-inyear c = (λ e is. absurd (false≢true (sym c.if-not-inyear.true ∙ is)), λ all. rw c.if-not-inyear.true)

pub returns-else-not-inyear : goal.returns-else-not-inyear
returns-else-not-inyear c = (λ e is. c.has_all_weekdays.ensures.0 e, λ all. c.has_all_weekdays.ensures.1 (all c.if-not-inyear.false))
