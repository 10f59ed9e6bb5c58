-- `override_text::lists::is_excluded` meets its contract: an object, or none.
use mathlib.Core.Bool.{Bool}
use mathlib.Core.Path.{◌∙◌, sym, ap}
use borrow.Author.Tests.{eq-eqb, ne_eqb}
use Rattle.event.specs.Types.{Override}
use Rattle.event.specs.Reading.{Reading, Judged, placed}
use Rattle.event.specs.Overrides.{patch_in}
use Rattle.override_text.proofs.PatchLaws.{patch-yes, patch-no}
use Rattle.property.proofs.RowLaws.{zeros}
use Rattle.property.specs.Inner.Vocabulary.{vocabulary, word_of}
use borrow.Author.Rules.{rules}
use Rattle.override_text.proofs.lists.is_excluded.Goals as goal

pub fill-requires : goal.fill-requires
fill-requires c = (c.requires, (zeros 10, search rules))

pub returns-then-byte-eq123 : goal.returns-then-byte-eq123
unfolding patch_in placed word_of vocabulary
returns-then-byte-eq123 c = λ l own id. ap (λ (q : Reading Bool). q.value) (c.flag-mark.ensures l)
    ∙ ap (λ (q : Judged Override). q.value.excluded)
    (patch-yes _ _ own id (eq-eqb _ _ (sym c.byte.ensures.is ∙ c.if-byte-eq123.true)) l)

pub returns : goal.returns
returns c = λ l own id. ap (λ (q : Judged Override). q.value.excluded)
    (patch-no _ _ own id (ne_eqb _ _ (λ e. c.if-byte-eq123.false (c.byte.ensures.is ∙ e))) l)
