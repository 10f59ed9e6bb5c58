-- `sheet_reader::fields::end_at` meets its contract: the number of the eight bytes after the start.
use Rattle.sheet.specs.Records.{end_at}
use borrow.Author.Rules.{rules}
use Rattle.sheet_reader.proofs.fields.end_at.Goals as goal

pub returns : goal.returns
unfolding end_at
returns c = rw (← c.get_i64.ensures) (search rules)
