-- `little_endian::put_u32` meets its contract: the library's bytes are those of the definition.
use Rattle.std.proofs.Common.{rules}
use Rattle.little_endian.specs.Bytes.{bytes_of}
use Rattle.little_endian.proofs.LibraryLaws.{stored}
use Rattle.little_endian.proofs.put_u32.Goals as goal

pub returns : goal.returns
unfolding bytes_of
returns c = search (rules, stored 4)
