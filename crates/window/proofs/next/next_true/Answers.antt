-- `window::next::next_true` meets its contract.
use Rattle.window.proofs.HitLaws.{true-starts, true-here, true-goes-on, true-then, true-none}
use Rattle.window.proofs.next.next_true.Goals as goal

pub loop-i-init : goal.loop-i-init
loop-i-init c = true-starts _ _ c.requires

pub returns-then-hits-i : goal.returns-then-hits-i
returns-then-hits-i c = true-here _ _ _ c.loop-i.invariant c.loop-i-test.true c.if-hits-i.true

pub loop-i-preserved : goal.loop-i-preserved
loop-i-preserved c = true-then _ _ _ _ (true-goes-on _ _ _ c.loop-i.invariant c.loop-i-test.true c.if-hits-i.false) c.past_quiet-i.ensures

pub returns : goal.returns
returns c = true-none _ _ _ c.loop-i.invariant c.loop-i-test.false
