-- `duration::amount::amount` meets its contract: from i on, with n before it, the number is the same as from the start, as far as it is counted.
use Prim.Native.Nat.{◌-◌, ◌≤◌}
use mathlib.Core.Path.{◌≡◌}
use lib.ListN.{length, drop}
use Rattle.duration.specs.Amount.{before, amount_of}
use Rattle.duration.specs.Inner.Capped.{enough, capped}
use Rattle.duration.proofs.amount.amount.Given as goal

abbrev pub invariant-loop-i : goal.invariant-loop-i
invariant-loop-i l = (capped (before l.c l.n (drop l.i l.raw)) ≡ capped (amount_of l.c l.raw)) × (l.n ≤ enough)

abbrev pub decreases-loop-i : goal.decreases-loop-i
decreases-loop-i l = length l.raw - l.i
