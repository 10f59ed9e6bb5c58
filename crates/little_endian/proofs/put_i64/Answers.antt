-- `little_endian::put_i64` meets its contract: what is stored is the two's complement.
use Rattle.std.proofs.Common.{rules}
use Rattle.little_endian.specs.Bytes.{bytes_of, twos}
use Rattle.little_endian.proofs.LibraryLaws.{stored_twos}
use Rattle.little_endian.proofs.put_i64.Goals as goal

pub returns : goal.returns
unfolding bytes_of twos
returns c = search (rules, stored_twos)
