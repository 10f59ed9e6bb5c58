-- `months::week::has_places` meets its contract.
use Rattle.months.proofs.WeekLaws.{places-none}
use native.Mathlib.Omega.{arith}
use borrow.Author.Tests.{ltb-false}
use Rattle.months.proofs.week.has_places.Goals as goal

pub returns : goal.returns
returns c = λ e. places-none _ (omega (arith, c.count_days.ensures, ltb-false 0 c.count_days.result e))
