-- `track::skips::days_ahead` meets its contract.
use Rattle.matcher.proofs.WalkLaws.{in-calendar}
use native.Mathlib.Omega.{arith}
use Rattle.track.proofs.skips.days_ahead.Goals as goal

pub overflow_sub-result-in-Yearly : goal.overflow_sub-result-in-Yearly
overflow_sub-result-in-Yearly c = let p = c.requires.1 in
    omega (arith, (in-calendar _ _ p.0 (omega (arith, p.1))).yearday)
