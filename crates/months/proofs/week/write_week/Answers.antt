-- `months::week::write_week` meets its contract. The invariant: the answers so far are written.
use Rattle.months.proofs.RowLaws.{wrote-more}
use Rattle.months.specs.Inner.Week.{week_at}
use mathlib.Core.Path.{refl}
use native.Mathlib.Omega.{arith}
use Rattle.months.proofs.week.write_week.Goals as goal

pub loop-k-preserved : goal.loop-k-preserved
unfolding week_at
loop-k-preserved c = let i = c.loop-k.invariant in
    wrote-more _ _ _ _ _ _ i (omega (arith, i.size, c.requires.1, c.loop-k-test.true)) refl
