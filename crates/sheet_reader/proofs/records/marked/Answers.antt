-- `sheet_reader::records::marked` meets its contract: the marks, compared with the most.
use Rattle.sheet_reader.proofs.records.marked.Goals as goal

pub returns : goal.returns
returns c = rw (← c.marks_at.ensures)
