-- `rule_text::collected::numbers` meets its contract.
use Rattle.rule_text.proofs.CollectLaws.{collected, list-few}
use mathlib.Core.Path.{refl}
-- `rule_text::collected::numbers` meets its contract.
use Rattle.rule_text.proofs.collected.numbers.Goals as goal

pub returns : goal.returns
returns c = collected c.signed_list-all.ensures refl (λ l. list-few _ _)
