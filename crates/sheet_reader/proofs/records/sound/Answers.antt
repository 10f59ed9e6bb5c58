-- `sheet_reader::records::sound` meets its contract: the number of the last four bytes, compared with the most.
use Rattle.little_endian.specs.Bytes.{number_at}
use Rattle.sheet_reader.proofs.records.sound.Goals as goal

pub returns : goal.returns
unfolding number_at
returns c = rw (← c.get.ensures.is)
