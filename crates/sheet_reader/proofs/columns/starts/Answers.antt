-- `sheet_reader::columns::starts` meets its contract: the second number of each record.
use mathlib.Core.Path.{◌∙◌}
use Rattle.sheet_reader.proofs.ColumnLaws.{starts_by}
use Rattle.sheet_reader.proofs.columns.starts.Goals as goal

pub returns : goal.returns
returns c = c.numbers.ensures ∙ starts_by _ _ _
