-- `months::rows::choose_days` meets its contract. The invariant: the answers so far are written, and those that stay are counted.
use Rattle.months.specs.Inner.Kinds.{chosen_in}
use Rattle.months.specs.Inner.Rows.{answer_at, Wrote}
use Rattle.rule.specs.Lists.{count_in}
use mathlib.Core.Path.{◌≡◌}
use Rattle.months.proofs.rows.choose_days.Given as goal

abbrev pub invariant-loop-k : goal.invariant-loop-k
invariant-loop-k l = ((l.seen ≡ count_in (answer_at l.initial.rows l.at) 0 l.k) × Wrote (chosen_in l.flags (answer_at l.initial.rows l.at) l.days) l.initial.rows l.at l.k l.rows)
