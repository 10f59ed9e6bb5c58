-- `single` meets its contract: each turn passes one more byte of the run, so what is left of the text falls.
use Prim.Native.Nat.{◌-◌}
use mathlib.Core.Path.{◌≡◌}
use lib.ListN.{length}
use Rattle.json_text.specs.Inner.Plain.{plain_at}
use Rattle.json_text.proofs.plain.single.Given as goal

abbrev pub invariant-loop-i : goal.invariant-loop-i
invariant-loop-i l = plain_at l.text l.i ≡ plain_at l.text l.at

abbrev pub decreases-loop-i : goal.decreases-loop-i
decreases-loop-i l = length l.text - l.i
