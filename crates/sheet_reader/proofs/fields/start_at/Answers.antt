-- `sheet_reader::fields::start_at` meets its contract: the number of the next eight bytes.
use Rattle.sheet.specs.Records.{start_at}
use borrow.Author.Rules.{rules}
use Rattle.sheet_reader.proofs.fields.start_at.Goals as goal

pub returns : goal.returns
unfolding start_at
returns c = rw (← c.get_i64.ensures) (search rules)
