-- `sheet_reader::trailer::version` meets its contract: the number of two bytes.
use Rattle.little_endian.specs.Bytes.{number_at}
use Rattle.sheet.specs.Reading.{version_of}
use Rattle.sheet_reader.proofs.trailer.version.Goals as goal

pub returns : goal.returns
unfolding number_at version_of
returns c = rw (← c.get.ensures.is)
