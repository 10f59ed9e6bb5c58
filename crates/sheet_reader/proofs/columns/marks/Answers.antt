-- `sheet_reader::columns::marks` meets its contract: the elements before here have their marks.
use Rattle.std.proofs.Common.{◌<◌, length, refl, arith}
use Rattle.sheet.specs.Runs.{tabulate}
use Rattle.sheet.specs.Records.{marks_at}
use Rattle.sheet_reader.proofs.ColumnLaws.{column-more}
use Rattle.sheet_reader.proofs.columns.marks.Goals as goal

pub loop-i-init : goal.loop-i-init
unfolding tabulate
loop-i-init c = refl

pub loop-i-preserved : goal.loop-i-preserved
loop-i-preserved c =
    let l = c.loop-i in
    let here : l.i < length l.out = omega (arith, c.loop-i-test.true, l.auto.out) in
    rw c.marks_at.ensures (column-more (marks_at c.args.s.now) l.out c.args.k l.i here l.invariant)
