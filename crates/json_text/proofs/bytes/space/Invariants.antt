use Prim.Native.Nat.{◌-◌}
use Rattle.json_text.specs.Bytes.{space_at}
use lib.ListN.{length}
use mathlib.Core.Path.{◌≡◌}
use Rattle.json_text.proofs.bytes.space.Given as goal

abbrev pub invariant-loop-i : goal.invariant-loop-i
invariant-loop-i l = space_at l.text l.i ≡ space_at l.text l.at

abbrev pub decreases-loop-i : goal.decreases-loop-i
decreases-loop-i l = length l.text - l.i
