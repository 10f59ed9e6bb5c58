-- `record::rows::put_record` meets its contract: the four stores are those of a record.
use native.Mathlib.Omega.{arith}
use Rattle.record.proofs.RowLaws.{row-steps}
use Rattle.record.proofs.rows.put_record.Goals as goal

pub returns : goal.returns
returns c = row-steps _ _ _ c.ranges.id c.ranges.start c.ranges.end c.args.marks (omega arith) _ _ _ _ _ _
    c.put_i64.ensures
    c.put_i64-2.ensures
    c.put_i64-3.ensures
    (rw c.from.ensures at c.put_u32.ensures)
