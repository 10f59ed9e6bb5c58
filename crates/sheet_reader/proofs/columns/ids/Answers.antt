-- `sheet_reader::columns::ids` meets its contract: the first number of each record.
use mathlib.Core.Path.{◌∙◌}
use Rattle.sheet_reader.proofs.ColumnLaws.{ids-by}
use Rattle.sheet_reader.proofs.columns.ids.Goals as goal

pub returns : goal.returns
returns c = c.numbers.ensures ∙ ids-by _ _ _
