-- `event_text::heads::head_at` meets its contract.
use Rattle.property.proofs.RowLaws.{zeros}
use borrow.Author.Rules.{rules}
use Rattle.event_text.proofs.heads.head_at.Goals as goal

pub fill-requires : goal.fill-requires
fill-requires c = (c.requires, (zeros 18, search rules))
