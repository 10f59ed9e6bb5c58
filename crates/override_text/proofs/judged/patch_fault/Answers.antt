-- `override_text::judged::patch_fault` meets its contract: an object, or none.
use mathlib.Core.Path.{◌∙◌, ap, sym}
use Rattle.fault.specs.Fault.{first}
use Rattle.event.specs.Types.{Override}
use Rattle.event.specs.Reading.{Judged}
use borrow.Author.Tests.{eq-eqb, ne_eqb}
use Rattle.override_text.proofs.PatchLaws.{patch-yes, patch-no}
use Rattle.override_text.proofs.judged.patch_fault.Goals as goal

pub returns-then-byte-eq123 : goal.returns-then-byte-eq123
returns-then-byte-eq123 c = λ l. c.object_fault.ensures l ∙ ap (λ (r : Judged Override). first r.faults) (patch-yes _ _ _ _ (eq-eqb _ _ (sym c.byte.ensures.is ∙ c.if-byte-eq123.true)) l)

pub returns : goal.returns
returns c = λ l. c.fault_at.ensures ∙ ap (λ (r : Judged Override). first r.faults) (patch-no _ _ _ _ (ne_eqb _ _ (λ e. c.if-byte-eq123.false (c.byte.ensures.is ∙ e))) l)
