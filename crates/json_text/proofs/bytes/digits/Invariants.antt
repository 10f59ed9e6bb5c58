use Prim.Native.Nat.{◌-◌}
use Rattle.json_text.specs.Bytes.{digits_at}
use lib.ListN.{length}
use mathlib.Core.Path.{◌≡◌}
use Rattle.json_text.proofs.bytes.digits.Given as goal

abbrev pub invariant-loop-i : goal.invariant-loop-i
invariant-loop-i l = digits_at l.text l.i ≡ digits_at l.text l.at

abbrev pub decreases-loop-i : goal.decreases-loop-i
decreases-loop-i l = length l.text - l.i
