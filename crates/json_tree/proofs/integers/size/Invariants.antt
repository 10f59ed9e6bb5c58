use Prim.Native.Nat.{◌-◌, ◌≤◌}
use Rattle.json_tree.specs.Integers.{decimal}
use lib.ListN.{drop, length}
use mathlib.Core.Path.{◌≡◌}
use Rattle.json_tree.proofs.integers.size.Given as goal

abbrev pub invariant-loop-at : goal.invariant-loop-at
invariant-loop-at l = (decimal l.v (drop l.i l.text) ≡ decimal 0 (drop l.at l.text)) × (l.v ≤ 90071992547410117)

abbrev pub decreases-loop-at : goal.decreases-loop-at
decreases-loop-at l = length l.text - l.i
