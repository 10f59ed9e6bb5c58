-- `sheet_reader::columns::numbers` meets its contract: the elements before here have their numbers.
use Rattle.std.proofs.Common.{◌≡◌, ◌+◌, ◌<◌, length, refl, arith}
use Rattle.signed.proofs.Parts.{back}
use Rattle.sheet.specs.Runs.{tabulate}
use Rattle.sheet_reader.specs.Inner.Columns.{signed_at}
use Rattle.sheet_reader.proofs.ColumnLaws.{column-more}
use Rattle.sheet_reader.proofs.columns.numbers.Goals as goal

pub loop-i-init : goal.loop-i-init
unfolding tabulate
loop-i-init c = refl

pub loop-i-preserved : goal.loop-i-preserved
loop-i-preserved c =
    let l = c.loop-i in
    let a = c.args in
    let here : l.i < length l.out = omega (arith, c.loop-i-test.true, l.auto.out) in
    let v : c.get_i64.result ≡ signed_at a.place a.s.now (a.k + l.i) = unfold signed_at in c.get_i64.ensures in
    rw (back c.get_i64.result c.get_i64.type_inv, v) (column-more (signed_at a.place a.s.now) l.out a.k l.i here l.invariant)
