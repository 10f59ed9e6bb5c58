-- `override_text::patched::flag` meets its contract.
use mathlib.Core.Path.{refl}
use borrow.Author.Rules.{rules}
use Rattle.event.specs.Properties.{read_boolean}
use Rattle.override_text.proofs.PatchLaws.{chosen}
use Rattle.override_text.specs.Inner.Meaning.{mark_in}
use Rattle.override_text.proofs.patched.flag.Goals as goal

pub returns : goal.returns
returns c = λ l. chosen _ _ _ l _ _ _ _ mark_in read_boolean _ _ refl refl (λ i x p. search rules) (c.patched.ensures l)
