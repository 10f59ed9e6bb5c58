-- `digits::legal_fraction` meets its contract: a last digit that is not 0 decides.
use mathlib.Core.Path.{sym, ◌∙◌}
use borrow.Author.Tests.{eq-eqb}
use Rattle.digits.proofs.Laws.{legal-none, legal-zero, legal-last}
use Rattle.digits.proofs.legal_fraction.Goals as goal

pub returns-in-empty : goal.returns-in-empty
returns-in-empty c = legal-none _ c.in-empty.len_below

pub returns-then-last-ne48 : goal.returns-then-last-ne48
returns-then-last-ne48 c = c.all_digits.ensures ∙ legal-last _ c.in-len1-up.len_at_least c.if-last-ne48.true

pub returns-else-last-ne48 : goal.returns-else-last-ne48
returns-else-last-ne48 c = rw (eq-eqb _ _ c.if-last-ne48.false) (sym (legal-zero _ c.in-len1-up.len_at_least c.if-last-ne48.false))
