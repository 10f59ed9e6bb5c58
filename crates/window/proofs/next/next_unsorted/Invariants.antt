-- `window::next::next_unsorted` meets its contract.
use Rattle.window.proofs.OverrideLaws.{KeptAt}
use Prim.Native.Nat.{◌-◌}
use Rattle.window.proofs.next.next_unsorted.Given as goal

abbrev pub invariant-loop-from : goal.invariant-loop-from
invariant-loop-from l = KeptAt l.ids l.gone l.at l.to l.from

abbrev pub decreases-loop-from : goal.decreases-loop-from
decreases-loop-from l = l.to - l.from
