-- `calendar::seconds::moment_of` meets its contract: the seconds since 1600 are a natural number, whose division is the floor division.
use native.Mathlib.Omega.{arith}
use Rattle.signed.specs.Parts.{pos_part, neg_part}
use Rattle.signed.proofs.Parts.{passed}
use Rattle.gregorian.proofs.SecondLaws.{day-since, second-since}
use Rattle.calendar.proofs.seconds.moment_of.Goals as goal

pub overflow_add-since : goal.overflow_add-since
overflow_add-since c = let a = passed pos_part c.ranges.seconds c.positive_part.ensures in
    omega (arith, a, c.requires.high)

pub overflow_sub-since : goal.overflow_sub-since
overflow_sub-since c = let h = c.requires in
    let a = passed pos_part c.ranges.seconds c.positive_part.ensures in
    let b = passed neg_part c.ranges.seconds c.negative_part.ensures in
    omega (arith, a, b, h.low)

pub overflow_cast-result : goal.overflow_cast-result
overflow_cast-result c = let h = c.requires in
    let a = passed pos_part c.ranges.seconds c.positive_part.ensures in
    let b = passed neg_part c.ranges.seconds c.negative_part.ensures in
    omega (arith, a, b, h.low, h.high)

pub returns : goal.returns
returns c = let h = c.requires in
    let a = passed pos_part c.ranges.seconds c.positive_part.ensures in
    let b = passed neg_part c.ranges.seconds c.negative_part.ensures in
    rw (a, b) (λ i. record { day = day-since _ h i; second = second-since _ h i })
