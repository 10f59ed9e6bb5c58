-- `date_time::picture::follows` meets its contract: what is left to compare from i on is the same as at the start.
use Prim.Native.Nat.{◌-◌, ◌≤◌}
use mathlib.Core.Path.{◌≡◌}
use lib.ListN.{length, drop}
use Rattle.date_time.specs.Picture.{follows}
use Rattle.date_time.proofs.picture.follows.Given as goal

abbrev pub invariant-loop-i : goal.invariant-loop-i
invariant-loop-i l = (follows (drop l.i l.picture) (drop l.i l.raw) ≡ follows l.picture l.raw) × (length l.picture ≤ length l.raw)
