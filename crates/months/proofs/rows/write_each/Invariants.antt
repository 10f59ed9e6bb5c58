-- `months::rows::write_each` meets its contract. The invariant: the answers so far are written.
use Rattle.months.specs.Inner.Kinds.{stays_in}
use Rattle.months.specs.Inner.Rows.{Wrote}
use Rattle.months.proofs.rows.write_each.Given as goal

abbrev pub invariant-loop-k : goal.invariant-loop-k
invariant-loop-k l = Wrote (stays_in l.flags l.weekday l.days) l.initial.rows l.at l.k l.rows
