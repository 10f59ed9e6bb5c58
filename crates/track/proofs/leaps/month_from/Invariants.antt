-- `track::leaps::month_from` meets its contract. The invariant: the month begins no later.
use Rattle.gregorian.specs.Month.{month_start}
use Prim.Native.Nat.{◌≤◌}
use Rattle.track.proofs.leaps.month_from.Given as goal

abbrev pub invariant-loop-m : goal.invariant-loop-m
invariant-loop-m l = month_start l.year l.m ≤ l.r
