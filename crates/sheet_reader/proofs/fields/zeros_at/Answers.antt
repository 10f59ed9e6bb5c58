-- `sheet_reader::fields::zeros_at` meets its contract: the number of the last three bytes.
use Rattle.little_endian.specs.Bytes.{number_at}
use Rattle.sheet.specs.Records.{zeros_at}
use Rattle.sheet_reader.proofs.fields.zeros_at.Goals as goal

pub returns : goal.returns
unfolding number_at zeros_at
returns c = rw (← c.get.ensures.is)
