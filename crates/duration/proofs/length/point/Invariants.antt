-- `duration::length::point` meets its contract: the first point from i on is the first of all.
use Prim.Native.Nat.{◌-◌}
use mathlib.Core.Path.{◌≡◌}
use lib.ListN.{length}
use Rattle.json_text.specs.Bytes.{past}
use Rattle.duration.specs.Length.{point_at, no_point}
use Rattle.duration.proofs.length.point.Given as goal

abbrev pub invariant-loop-i : goal.invariant-loop-i
invariant-loop-i l = past no_point l.raw l.i ≡ point_at l.raw

abbrev pub decreases-loop-i : goal.decreases-loop-i
decreases-loop-i l = length l.raw - l.i
