-- `matcher::marks::mark_places` meets its contract: what is marked from here on is what is marked from the start on.
use Rattle.matcher.specs.Inner.Marks.{mark_place}
use borrow.Author.Rules.{rules}
use Rattle.signed.proofs.Parts.{passed}
use Rattle.matcher.proofs.MarkLaws.{places-goes-on, places-ends}
use Rattle.matcher.proofs.marks.mark_places.Goals as goal

pub loop-z-preserved : goal.loop-z-preserved
loop-z-preserved c = places-goes-on _ _ _ _ _ _ _ _ c.loop-z.invariant c.loop-z-test.true
    (passed (mark_place _ _ _ _) (search rules) c.mark_place.ensures)

pub returns : goal.returns
returns c = places-ends _ _ _ _ _ _ _ c.loop-z.invariant c.loop-z-test.false
