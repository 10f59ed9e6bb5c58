-- `window::next::past_blocks` meets its contract.
use native.Mathlib.Omega.{arith}
use Rattle.window.proofs.HitLaws.{true-starts, true-then, true-passed}
use Rattle.window.proofs.next.past_blocks.Goals as goal

pub loop-i-init : goal.loop-i-init
loop-i-init c = true-starts _ _ c.requires

pub overflow_sub-hits : goal.overflow_sub-hits
overflow_sub-hits c = omega (arith, c.loop-i.invariant.within)

pub loop-i-preserved : goal.loop-i-preserved
loop-i-preserved c = true-then _ _ _ _ c.loop-i.invariant (true-passed _ _ 64 (omega arith) _ c.none_in.ensures c.if-none_in.true)

pub returns-else-none_in : goal.returns-else-none_in
returns-else-none_in c = c.loop-i.invariant

pub returns : goal.returns
returns c = c.loop-i.invariant
