-- `sheet_reader::fields::marks_at` meets its contract: the byte after the end.
use Rattle.little_endian.specs.Bytes.{number_at}
use Rattle.sheet.specs.Records.{marks_at}
use Rattle.sheet_reader.proofs.fields.marks_at.Goals as goal

pub returns : goal.returns
unfolding marks_at number_at
returns c = rw (← c.get.ensures.is)
