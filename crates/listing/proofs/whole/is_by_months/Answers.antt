-- `listing::whole::is_by_months` meets its contract.
use Rattle.std.proofs.Common.{sym, ◌∙◌}
use Rattle.std.proofs.lemmas.Bool.{false≢true}
use Rattle.listing.proofs.whole.is_by_months.Goals as goal

pub returns-then-positions_in_months : goal.returns-then-positions_in_months
returns-then-positions_in_months c = (
  λ e. record { alike = c.is_alike.ensures.0 e; monthly = c.positions_in_months.ensures.0 c.if-positions_in_months.true },
  λ by. c.is_alike.ensures.1 by.alike,
)

pub returns-else-positions_in_months : goal.returns-else-positions_in_months
returns-else-positions_in_months c = (
  λ e. absurd (false≢true (sym c.if-positions_in_months.false ∙ e)),
  λ by. c.positions_in_months.ensures.1 by.monthly,
)
