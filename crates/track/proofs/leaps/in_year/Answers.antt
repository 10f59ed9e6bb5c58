-- `track::leaps::in_year` meets its contract.
use Rattle.matcher.proofs.WalkLaws.{in-calendar}
use Rattle.track.proofs.LeapLaws.{whole, month-of-day, year-later}
use native.Mathlib.Omega.{arith}
use Rattle.track.proofs.leaps.in_year.Goals as goal

pub month_from-month-requires : goal.month_from-month-requires
month_from-month-requires c = let p = c.requires in
    let facts = in-calendar _ _ p.0 (omega (arith, p.1.0)) in
    ((facts.month_low, facts.month_high), (omega (arith, month-of-day _ p.0), omega (arith, p.1.1, whole _ p.0 (omega (arith, p.1.0)))))

pub overflow_add-result-2 : goal.overflow_add-result-2
overflow_add-result-2 c = let p = c.requires in
    omega (arith, (in-calendar _ _ p.0 (omega (arith, p.1.0))).weekday, p.1.0)

pub returns : goal.returns
returns c = let p = c.requires in
    rw (c.month_start.ensures, c.month_length.ensures) (year-later _ p.0 _ _ p.1.0 c.month_from-month.ensures)
