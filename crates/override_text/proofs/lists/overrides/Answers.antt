-- `override_text::lists::overrides` meets its contract: an object, or none.
use mathlib.Core.Path.{◌∙◌, sym}
use borrow.Author.Tests.{eq-eqb, ne_eqb}
use Rattle.override_text.proofs.ListLaws.{filled-yes, filled-no}
use Rattle.override_text.proofs.lists.overrides.Goals as goal

pub returns-then-byte-eq123 : goal.returns-then-byte-eq123
returns-then-byte-eq123 c = λ l own. filled-yes _ _ _ _ _ _ _ _ _ l own
    (eq-eqb _ _ (sym c.byte.ensures.is ∙ c.if-byte-eq123.true))
    (c.fill.ensures l own)

pub returns : goal.returns
returns c = λ l own. filled-no _ _ _ _ _ l own (ne_eqb _ _ (λ e. c.if-byte-eq123.false (c.byte.ensures.is ∙ e)))
