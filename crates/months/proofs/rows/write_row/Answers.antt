-- `months::rows::write_row` meets its contract.
use Rattle.months.proofs.RowLaws.{wrote-chosen, wrote-plain}
use Rattle.months.proofs.rows.write_row.Goals as goal

pub returns-then-placed : goal.returns-then-placed
returns-then-placed c = rw c.if-placed.true (wrote-chosen _ _ _ _ _ _ _ c.write_days.ensures c.choose_days.ensures)

pub returns-else-placed : goal.returns-else-placed
returns-else-placed c = rw c.if-placed.false (wrote-plain _ _ _ _ _ _ c.write_days.ensures)
