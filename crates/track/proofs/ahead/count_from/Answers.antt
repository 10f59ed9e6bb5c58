-- `track::ahead::count_from` meets its contract.
use Rattle.track.proofs.AheadLaws.{ahead-joins, resting-begins, resting-on}
use Rattle.track.proofs.LastLaws.{end-starts}
use Rattle.matcher.proofs.WalkLaws.{number_is, day-again}
use native.Mathlib.Omega.{arith}
use Rattle.track.proofs.ahead.count_from.Goals as goal

pub day_of-requires : goal.day_of-requires
day_of-requires c = omega (arith, c.requires.0.0.high)

pub pass_far-far-requires : goal.pass_far-far-requires
pass_far-far-requires c = let p = c.requires in
    (p.0.1, resting-begins _ _ _ _ p.0.0 p.1 _ c.day_of.ensures _)

pub returns-then-terms : goal.returns-then-terms
returns-then-terms c = let p = c.requires in
    let e = c.day_of.ensures in
    ahead-joins _ _ _ _ _ _ (record { day = day-again _ _ e; walk = end-starts _ _ _ _ _ (number_is _ _ e) p.1 }) c.pass_far-far.ensures

pub pass_months-requires : goal.pass_months-requires
pass_months-requires c = let p = c.requires in
    (c.if-terms.false, resting-on _ _ _ _ _ _ (resting-begins _ _ _ _ p.0.0 p.1 _ c.day_of.ensures _) c.pass_far-far.ensures)

pub returns : goal.returns
returns c = let p = c.requires in
    let e = c.day_of.ensures in
    let u = ahead-joins _ _ _ _ _ _ (record { day = day-again _ _ e; walk = end-starts _ _ _ _ _ (number_is _ _ e) p.1 }) c.pass_far-far.ensures in
    ahead-joins _ _ _ _ _ _ u c.pass_months.ensures
