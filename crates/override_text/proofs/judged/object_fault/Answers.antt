-- `override_text::judged::object_fault` meets its contract.
use Rattle.property.proofs.RowLaws.{zeros}
use borrow.Author.Rules.{rules}
use Rattle.override_text.proofs.judged.object_fault.Goals as goal

pub fill-requires : goal.fill-requires
fill-requires c = (c.requires, (zeros 10, search rules))
