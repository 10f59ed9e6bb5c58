-- `rule_text::collected::weekdays` meets its contract.
use Rattle.rule_text.proofs.CollectLaws.{days-collected, list-few, list_back}
use mathlib.Core.Path.{refl}
-- `rule_text::collected::weekdays` meets its contract.
use Rattle.rule_text.proofs.collected.weekdays.Goals as goal

pub returns : goal.returns
returns c = days-collected c.day_list-days.ensures refl refl (λ l. list-few _ _) (λ l. list_back _)
