-- `months::rows::write_plain` meets its contract. The invariant: the answers so far are written.
use Rattle.months.proofs.RowLaws.{wrote-more}
use Rattle.months.proofs.WeekLaws.{plain-is}
use native.Mathlib.Omega.{arith}
use Rattle.months.proofs.rows.write_plain.Goals as goal

pub loop-k-preserved : goal.loop-k-preserved
loop-k-preserved c = let i = c.loop-k.invariant in
    let p = c.requires in
    wrote-more _ _ _ _ _ _ i (omega (arith, i.size, p.1.size, p.1.within, c.loop-k-test.true))
    (plain-is _ _ _ _ _ _ _ _ p.0 p.1 i c.loop-k-test.true)
