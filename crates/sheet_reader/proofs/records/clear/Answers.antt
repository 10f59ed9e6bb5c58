-- `sheet_reader::records::clear` meets its contract: three zeros.
use Rattle.sheet_reader.proofs.records.clear.Goals as goal

pub returns : goal.returns
returns c = rw (← c.zeros_at.ensures)
