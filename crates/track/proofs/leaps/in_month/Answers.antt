-- `track::leaps::in_month` meets its contract.
use Rattle.track.proofs.SkipLaws.{in-same-month}
use Rattle.matcher.proofs.WalkLaws.{in-calendar}
use native.Mathlib.Omega.{arith}
use Rattle.track.proofs.leaps.in_month.Goals as goal

pub overflow_add-result-2 : goal.overflow_add-result-2
overflow_add-result-2 c = let p = c.requires in
    omega (arith, (in-calendar _ _ p.0 (omega (arith, p.1.0))).weekday, p.1.0)

pub overflow_add-result-3 : goal.overflow_add-result-3
overflow_add-result-3 c = let p = c.requires in
    let facts = in-calendar _ _ p.0 (omega (arith, p.1.0)) in
    omega (arith, facts.yearday, facts.yeardays, p.1.0)

pub returns : goal.returns
returns c = let p = c.requires in
    in-same-month _ p.0 _ p.1.0 p.1.1
