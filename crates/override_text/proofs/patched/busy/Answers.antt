-- `override_text::patched::busy` meets its contract.
use mathlib.Core.Path.{refl}
use borrow.Author.Rules.{rules}
use Rattle.event.specs.Properties.{read_busy}
use Rattle.override_text.proofs.PatchLaws.{chosen}
use Rattle.override_text.specs.Inner.Meaning.{mark_in}
use Rattle.property.specs.Inner.Vocabulary.{vocabulary, word_of}
use Rattle.override_text.proofs.patched.busy.Goals as goal

pub returns : goal.returns
unfolding word_of vocabulary
returns c = λ l. chosen _ _ _ l _ _ _ _ mark_in read_busy _ _ refl refl (λ i x p. search rules) (c.patched.ensures l)
