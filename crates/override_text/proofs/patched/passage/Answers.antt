-- `override_text::patched::passage` meets its contract.
use mathlib.Core.Path.{refl}
use borrow.Author.Rules.{rules}
use Rattle.event.specs.Properties.{read_text}
use Rattle.override_text.proofs.PatchLaws.{chosen}
use Rattle.override_text.specs.Inner.Meaning.{shown_in}
use Rattle.override_text.proofs.patched.passage.Goals as goal

pub returns : goal.returns
returns c = λ l. chosen _ _ _ l _ _ _ _ (shown_in c.args.text.now) read_text _ _ refl refl (λ i x p. search rules) (c.patched.ensures l)
