-- `property::rows::fill` meets its contract.
use Rattle.std.proofs.Common.{◌-◌}
use Rattle.property.proofs.RowLaws.{Filling}
use lib.ListN.{length}
use Rattle.property.proofs.rows.fill.Given as goal

abbrev pub invariant-loop : goal.invariant-loop
invariant-loop l = Filling l.text l.at (length l.initial.row) (l.end - l.counter) l.next l.row
