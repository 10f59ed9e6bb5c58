-- `calendar::year::year_start` meets its contract: whole cycles of 400 years, and the table for the rest.
use native.Mathlib.Omega.{arith}
use mathlib.Core.Path.{◌≡◌}
use Prim.Native.Nat.{◌+◌, ◌*◌, ◌-◌, ◌/◌, ◌%◌}
use Rattle.gregorian.specs.Year.{first_of_year}
use Rattle.gregorian.proofs.YearLaws.{first-cycle, first-most}
use Rattle.calendar.proofs.year.year_start.Goals as goal

-- src/year.rt:446:5
pub overflow_add-result : goal.overflow_add-result
overflow_add-result c = omega (arith, c.first_in_cycle.ensures, first-most ((c.args.year - 1600) % 400))

-- src/year.rt:441:1
pub returns : goal.returns
returns c = let k = c.args.year - 1600 in
    let split : 400 * (k / 400) + k % 400 ≡ k = omega arith in
    let law : first_of_year k ≡ 146097 * (k / 400) + first_of_year (k % 400) = rw split at (first-cycle (k / 400) (k % 400)) in
    omega (arith, c.first_in_cycle.ensures, law)
