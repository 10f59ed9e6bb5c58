-- `rule_text::rules::rule_in` meets its contract.
use Rattle.property.proofs.RowLaws.{zeros}
use borrow.Author.Rules.{rules}
use Rattle.rule_text.proofs.rules.rule_in.Goals as goal

pub fill-requires : goal.fill-requires
fill-requires c = (c.requires, (zeros 34, search rules))
