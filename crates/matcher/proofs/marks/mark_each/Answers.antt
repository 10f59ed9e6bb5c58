-- `matcher::marks::mark_each` meets its contract: what is marked from here on is what is marked from the start on.
use Rattle.matcher.proofs.MarkLaws.{each-goes-on, each-ends}
use Rattle.matcher.proofs.marks.mark_each.Goals as goal

pub loop-i-preserved : goal.loop-i-preserved
loop-i-preserved c = each-goes-on _ _ _ _ _ _ _ c.loop-i.invariant c.loop-i-test.true (rw c.from.ensures at c.mark.ensures)

pub returns : goal.returns
returns c = each-ends _ _ _ _ _ _ c.loop-i.invariant c.loop-i-test.false
