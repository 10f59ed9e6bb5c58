-- `calendar::month::month_day` meets its contract: the place among the days of the month.
use mathlib.Core.Path.{ap, ◌∙◌}
use native.Mathlib.Omega.{arith}
use Rattle.signed.specs.Place.{place_of}
use Rattle.signed.proofs.Parts.{passed}
use Rattle.signed.proofs.PlaceLaws.{place-most}
use Rattle.gregorian.proofs.MonthLaws.{month-most}
use Rattle.gregorian.specs.Month.{month_day}
use Rattle.calendar.proofs.month.month_day.Goals as goal

pub overflow_cast-result : goal.overflow_cast-result
overflow_cast-result c = let a = c.args in
    let e = passed (λ z. place_of z c.month_length-length.result) c.ranges.day c.place.ensures in
    omega (arith, e, c.month_length-length.ensures, place-most a.day c.month_length-length.result, month-most a.year a.month)

pub returns : goal.returns
unfolding month_day
returns c = let e = passed (λ z. place_of z c.month_length-length.result) c.ranges.day c.place.ensures in
    e ∙ ap (place_of c.args.day) c.month_length-length.ensures
