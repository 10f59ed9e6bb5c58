-- `months::week::write_week` meets its contract. The invariant: the answers so far are written.
use Rattle.months.specs.Inner.Layout.{kinds_size}
use Rattle.months.specs.Inner.Week.{week_at}
use Rattle.months.specs.Inner.Rows.{Wrote}
use Rattle.months.proofs.week.write_week.Given as goal

abbrev pub invariant-loop-k : goal.invariant-loop-k
invariant-loop-k l = Wrote (week_at l.flags) l.initial.rows kinds_size l.k l.rows
