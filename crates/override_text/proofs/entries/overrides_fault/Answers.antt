-- `override_text::entries::overrides_fault` meets its contract: an object, or none.
use mathlib.Core.List.{List}
use mathlib.Core.Path.{◌∙◌, sym, ap}
use borrow.Author.Tests.{eq-eqb, ne_eqb}
use Rattle.fault.specs.Fault.{first}
use Rattle.event.specs.Types.{Override}
use Rattle.event.specs.Reading.{Judged}
use Rattle.override_text.proofs.EntryLaws.{overrides-yes, overrides-no}
use Rattle.override_text.proofs.entries.overrides_fault.Goals as goal

pub returns-then-byte-eq123 : goal.returns-then-byte-eq123
returns-then-byte-eq123 c = λ l. c.faults.ensures l
    ∙ ap (λ (r : Judged (List Override)). first r.faults)
    (overrides-yes _ _ _ (eq-eqb _ _ (sym c.byte.ensures.is ∙ c.if-byte-eq123.true)) l)

pub returns : goal.returns
returns c = λ l. c.fault_at.ensures ∙ ap (λ (r : Judged (List Override)). first r.faults) (overrides-no _ _ _ (ne_eqb _ _ (λ e. c.if-byte-eq123.false (c.byte.ensures.is ∙ e))) l)
