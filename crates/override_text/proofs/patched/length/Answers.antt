-- `override_text::patched::length` meets its contract.
use mathlib.Core.Path.{refl}
use borrow.Author.Rules.{rules}
use Rattle.event.specs.Properties.{read_length}
use Rattle.override_text.proofs.PatchLaws.{chosen}
use Rattle.override_text.specs.Inner.Meaning.{lasting_in}
use Rattle.property.specs.Inner.Vocabulary.{vocabulary, word_of}
use Rattle.override_text.proofs.patched.length.Goals as goal

pub returns : goal.returns
unfolding word_of vocabulary
returns c = λ l. chosen _ _ _ l _ _ _ _ lasting_in read_length _ _ refl refl (λ i x p. search rules) (c.patched.ensures l)
