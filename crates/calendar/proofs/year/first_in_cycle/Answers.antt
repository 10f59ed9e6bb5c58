-- `calendar::year::first_in_cycle` meets its contract: the table holds the first days of 401 years, as the checker computes them once.
use native.Mathlib.Omega.{arith}
use Rattle.gregorian.specs.Year.{year_length, is_leap}
use Rattle.gregorian.proofs.YearLaws.{table-rule}
use Rattle.calendar.proofs.year.first_in_cycle.Goals as goal

-- src/year.rt:433:1
pub returns : goal.returns
unfolding year_length is_leap
returns c = table-rule c.args.k (omega arith)
