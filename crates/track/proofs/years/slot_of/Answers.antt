-- `track::years::slot_of` meets its contract.
use Rattle.track.proofs.YearLaws.{year-long, year-short, slot-below}
use Rattle.track.specs.Inner.Years.{phase_of, slot_of}
use Rattle.matcher.proofs.WalkLaws.{in-calendar}
use native.Mathlib.Omega.{arith}
use Rattle.track.proofs.years.slot_of.Goals as goal

pub period_of-period-requires : goal.period_of-period-requires
period_of-period-requires c = let b = c.requires.1 in
    (b.week, (in-calendar _ _ b.new.day (omega (arith, b.high)), omega (arith, b.high)))

pub overflow_sub-result : goal.overflow_sub-result
overflow_sub-result c = let p = c.requires in
    omega (arith, year-long _ _ p.1)

pub overflow_mul-result : goal.overflow_mul-result
overflow_mul-result c = let p = c.requires in
    omega (arith, year-short _ _ p.1)

pub overflow_add-result : goal.overflow_add-result
overflow_add-result c = let p = c.requires in
    omega (arith, year-short _ _ p.1, (in-calendar _ _ p.1.new.day (omega (arith, p.1.high))).weekday)

pub overflow_mul-result-2 : goal.overflow_mul-result-2
overflow_mul-result-2 c = let p = c.requires in
    omega (arith, year-short _ _ p.1, (in-calendar _ _ p.1.new.day (omega (arith, p.1.high))).weekday)

pub overflow_add-result-2 : goal.overflow_add-result-2
unfolding slot_of phase_of
overflow_add-result-2 c = let p = c.requires in
    let below = rw (← c.period_of-period.ensures) at (slot-below _ p.0 _ p.1) in
    omega arith

pub returns : goal.returns
unfolding slot_of phase_of
returns c = rw (← c.period_of-period.ensures)
