-- `window::sorted::next_sorted` meets its contract.
use Rattle.std.proofs.Common.{◌∙◌}
use Rattle.window.proofs.NextLaws.{lower-min}
use Rattle.window.proofs.SortedLaws.{sorted-starts, sorted-goes-on, sorted-found, sorted_none}
use Rattle.window.proofs.sorted.next_sorted.Goals as goal

pub loop-i-init : goal.loop-i-init
loop-i-init c = sorted-starts _ _ _ c.requires.0 c.requires.1.0 _ c.below-i.ensures

pub returns-then-not-gone-i : goal.returns-then-not-gone-i
returns-then-not-gone-i c = sorted-found _ _ _ c.requires.0 c.requires.1.0 _ c.loop-i.invariant c.loop-i-test.true _ c.requires.1.1 c.if-not-gone-i.true _ (c.min.ensures ∙ lower-min _ _)

pub loop-i-preserved : goal.loop-i-preserved
loop-i-preserved c = sorted-goes-on _ _ _ c.requires.0 c.requires.1.0 _ c.loop-i.invariant c.loop-i-test.true c.if-not-gone-i.false

pub returns : goal.returns
returns c = sorted_none _ _ _ c.requires.0 c.requires.1.0 _ _ c.requires.1.1 c.loop-i.invariant c.loop-i-test.false
