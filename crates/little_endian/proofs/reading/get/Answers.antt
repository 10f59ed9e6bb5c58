-- `little_endian::reading::get` meets its contract: the library's number of the bytes, with zeros for those that are not read.
use Rattle.std.proofs.Common.{◌++◌, ap, List, ℕ, drop, rules}
use Rattle.std.specs.Prelude.{replicate}
use Rattle.little_endian.proofs.LibraryLaws.{padded}
use Rattle.little_endian.proofs.reading.get.Goals as goal

pub returns : goal.returns
returns g c =
    padded g.row.N c.args.at c.args.s.now (c.copy_from_slice.new.self ++ drop g.row.N (replicate 8 0)) c.requires.width c.requires.room
    (λ k. (c.type_inv.s k).fits)
    (ap (λ (l : List ℕ). l ++ drop g.row.N (replicate 8 0)) (search rules))
    _
    (search rules)
