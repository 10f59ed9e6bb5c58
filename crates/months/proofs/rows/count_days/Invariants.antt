-- `months::rows::count_days` meets its contract. The invariant: what was found is what the days so far hold.
use Rattle.months.specs.Inner.Rows.{answer_at}
use Rattle.rule.specs.Lists.{count_in}
use mathlib.Core.Path.{◌≡◌}
use Rattle.months.proofs.rows.count_days.Given as goal

abbrev pub invariant-loop-yes : goal.invariant-loop-yes
invariant-loop-yes l = (l.found ≡ count_in (answer_at l.rows l.at) 0 l.yes-index)
