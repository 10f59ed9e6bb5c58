-- `source::listed::has_one_rule` meets its contract.
use Rattle.std.proofs.Common.{sym, ◌∙◌}
use borrow.Author.Tests.{eqb-true}
use Rattle.source.proofs.listed.has_one_rule.Goals as goal

pub returns-then-dates-eq0 : goal.returns-then-dates-eq0
returns-then-dates-eq0 c = λ e. (eqb-true _ _ e, (c.if-dates-eq0.true.1, eqb-true _ _ (sym c.is_empty.ensures ∙ c.if-dates-eq0.true.0)))
