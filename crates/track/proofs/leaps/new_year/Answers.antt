-- `track::leaps::new_year` meets its contract.
use native.Mathlib.Omega.{arith}
use Rattle.matcher.proofs.WalkLaws.{in-calendar}
use Rattle.track.proofs.LeapLaws.{new-year}
use Rattle.track.proofs.leaps.new_year.Goals as goal

pub overflow_sub-rest : goal.overflow_sub-rest
overflow_sub-rest c = let p = c.requires in
    omega (arith, (in-calendar _ _ p.0 (omega (arith, p.1))).yearday)

pub overflow_add-year : goal.overflow_add-year
overflow_add-year c = let p = c.requires in
    omega (arith, (in-calendar _ _ p.0 (omega (arith, p.1))).year_high)

pub overflow_add-result-2 : goal.overflow_add-result-2
overflow_add-result-2 c = let p = c.requires in
    let facts = in-calendar _ _ p.0 (omega (arith, p.1)) in
    omega (arith, facts.weekday, facts.yeardays)

pub returns : goal.returns
returns c = let p = c.requires in
    rw c.year_length-yeardays.ensures (new-year _ p.0 p.1)
