-- `sheet_reader::fields::id_at` meets its contract: the number of the first eight bytes.
use Rattle.sheet.specs.Records.{id_at}
use borrow.Author.Rules.{rules}
use Rattle.sheet_reader.proofs.fields.id_at.Goals as goal

pub returns : goal.returns
unfolding id_at
returns c = rw (← c.get_i64.ensures) (search rules)
