-- `override_text::patched::start` meets its contract.
use mathlib.Core.Path.{◌∙◌}
use Rattle.override_text.proofs.PatchLaws.{start-own, start-read}
use Rattle.property.proofs.RowLaws.{here, missing}
use Rattle.property.specs.Inner.Vocabulary.{vocabulary, word_of}
use Rattle.override_text.proofs.patched.start.Goals as goal

pub returns-in-Some : goal.returns-in-Some
unfolding word_of vocabulary
returns-in-Some c = λ l.
    (c.when.ensures ∙ c.read_start.ensures l) ∙ start-read _ _ _
    (here _ _ _ _ c.place.ensures _ c.in-Some.is l)

pub returns-in-None : goal.returns-in-None
unfolding word_of vocabulary
returns-in-None c = λ l. start-own _ _ (missing _ _ _ _ c.place.ensures c.in-None.is l)
