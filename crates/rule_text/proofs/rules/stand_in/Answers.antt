-- `rule_text::rules::stand_in` meets its contract.
use Rattle.rule.specs.Inner.Read.{written, ndays, until_from, count_from}
use mathlib.Core.Path.{refl}
use Rattle.rule_text.proofs.rules.stand_in.Goals as goal

pub returns : goal.returns
unfolding written ndays until_from count_from
returns c = refl
