-- `track::skips::to_month_end` meets its contract.
use Rattle.track.specs.Inner.Skips.{to_month_end}
use Rattle.matcher.proofs.WalkLaws.{in-calendar}
use native.Mathlib.Omega.{arith}
use borrow.Author.Rules.{rules}
use Rattle.track.proofs.skips.to_month_end.Goals as goal

pub overflow_add-result : goal.overflow_add-result
overflow_add-result c = let p = c.requires in
    omega (arith, (in-calendar _ _ p.0 (omega (arith, p.1))).monthdays)

pub overflow_sub-result : goal.overflow_sub-result
overflow_sub-result c = let p = c.requires in
    omega (arith, (in-calendar _ _ p.0 (omega (arith, p.1))).monthday_high)

pub returns : goal.returns
unfolding to_month_end
returns c = search rules
