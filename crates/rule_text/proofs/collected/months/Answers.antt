-- `rule_text::collected::months` meets its contract.
use Rattle.rule_text.proofs.CollectLaws.{collected, list-few}
use mathlib.Core.Path.{refl}
-- `rule_text::collected::months` meets its contract.
use Rattle.rule_text.proofs.collected.months.Goals as goal

pub returns : goal.returns
returns c = collected c.month_list-year.ensures refl (λ l. list-few _ _)
