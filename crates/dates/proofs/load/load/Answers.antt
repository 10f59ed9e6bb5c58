-- `dates::load::load` meets its contract.
use lib.ListN.{length, take, drop}
use Prim.Native.Nat.{◌+◌, ◌-◌, ◌*◌}
use Rattle.matcher.specs.Inner.Layout.{row_size}
use Rattle.dates.proofs.LoadLaws.{row-added}
use Rattle.track.proofs.PlainLaws.{part-size}
use native.Mathlib.Omega.{arith}
use Rattle.dates.proofs.load.load.Goals as goal

pub returns : goal.returns
returns c = let p = c.requires.1 in
    let a = c.args in
    row-added _ _ _ _ _ _ _ c.settle_row-track.new.row _ _ (length (take (row_size * a.tracks.count + row_size - row_size * a.tracks.count) (drop (row_size * a.tracks.count) a.flags.now))) (omega (arith, p.rows)) (part-size a.flags.now (row_size * a.tracks.count) row_size (omega (arith, p.rows))) c.settle_row-track.auto.row c.put_track.ensures c.settle_row-track.ensures
