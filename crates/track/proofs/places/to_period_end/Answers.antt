-- `track::places::to_period_end` meets its contract.
use Rattle.matcher.proofs.WalkLaws.{asked-before, asked-day, known}
use native.Mathlib.Omega.{arith}
use Rattle.track.proofs.places.to_period_end.Goals as goal

pub since_first-before-requires : goal.since_first-before-requires
since_first-before-requires c = let a = c.requires in
    (a.week, (asked-day _ _ _ a, known _ _ _ a))

pub overflow_sub-rest : goal.overflow_sub-rest
overflow_sub-rest c = omega (arith, c.days_of.ensures, c.since_first-before.ensures, asked-before _ _ _ c.requires)

pub returns : goal.returns
returns c = let a = c.requires in
    let all = c.days_of.ensures in
    let before = c.since_first-before.ensures in
    let least = c.min.ensures in
    record {
      more = omega (arith, a.high, all, before, least, asked-before _ _ _ a);
      known = omega (arith, a.high, least);
      within = omega (arith, all, before, least, asked-before _ _ _ a);
    }
