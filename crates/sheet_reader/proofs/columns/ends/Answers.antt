-- `sheet_reader::columns::ends` meets its contract: the third number of each record.
use mathlib.Core.Path.{◌∙◌}
use Rattle.sheet_reader.proofs.ColumnLaws.{ends_by}
use Rattle.sheet_reader.proofs.columns.ends.Goals as goal

pub returns : goal.returns
returns c = c.numbers.ensures ∙ ends_by _ _ _
