-- `sheet_reader::columns::marks` meets its contract: the elements before here have their marks.
use Rattle.std.proofs.Common.{◌≡◌, take}
use Rattle.sheet.specs.Runs.{tabulate}
use Rattle.sheet.specs.Records.{marks_at}
use Rattle.sheet_reader.proofs.columns.marks.Given as goal

abbrev pub invariant-loop-i : goal.invariant-loop-i
invariant-loop-i l = take l.i l.out ≡ tabulate (marks_at l.s) l.k l.i
