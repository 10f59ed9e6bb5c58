-- `window::next::next_true` meets its contract.
use Rattle.window.specs.Inner.Next.{TrueAt}
use lib.ListN.{length}
use Prim.Native.Nat.{◌-◌}
use Rattle.window.proofs.next.next_true.Given as goal

abbrev pub invariant-loop-i : goal.invariant-loop-i
invariant-loop-i l = TrueAt l.hits l.from l.i

abbrev pub decreases-loop-i : goal.decreases-loop-i
decreases-loop-i l = length l.hits - l.i
