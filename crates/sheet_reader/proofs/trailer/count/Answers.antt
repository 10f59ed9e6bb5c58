-- `sheet_reader::trailer::count` meets its contract: it is the trailer's third number.
use Rattle.sheet.specs.Reading.{count_of}
use Rattle.sheet_reader.proofs.trailer.count.Goals as goal

pub returns : goal.returns
unfolding count_of
returns c = c.get.ensures.is
