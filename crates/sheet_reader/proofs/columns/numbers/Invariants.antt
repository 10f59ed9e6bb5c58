-- `sheet_reader::columns::numbers` meets its contract: the elements before here have their numbers.
use Rattle.std.proofs.Common.{◌≡◌, take}
use Rattle.sheet.specs.Runs.{tabulate}
use Rattle.sheet_reader.specs.Inner.Columns.{signed_at}
use Rattle.sheet_reader.proofs.columns.numbers.Given as goal

abbrev pub invariant-loop-i : goal.invariant-loop-i
invariant-loop-i l = take l.i l.out ≡ tabulate (signed_at l.place l.s) l.k l.i
