-- `window::next::nearer_of` meets its contract.
use borrow.Author.Tests.{le-ltb, lt-ltb}
use Rattle.window.specs.Inner.Next.{nearer}
use Rattle.window.proofs.next.nearer_of.Goals as goal
use Rattle.window.proofs.next.nearer_of.Goals.{else-at-id-via-then-at-id+then-id-best+else-not-gone, else-at-id-via-then-at-id+else-id-best, else-at-id-via-else-at-id}

pub returns-then-not-gone : goal.returns-then-not-gone
unfolding nearer
returns-then-not-gone c = rw (le-ltb _ _ c.if-at-id.true, lt-ltb _ _ c.if-id-best.true, c.if-not-gone.true)

pub returns-else-at-id : goal.returns-else-at-id
unfolding nearer
returns-else-at-id c = elim c.else-at-id.branch [ else-at-id-via-then-at-id+then-id-best+else-not-gone w ↦ rw (le-ltb _ _ w.if-at-id.true, lt-ltb _ _ w.if-id-best.true, w.if-not-gone.false) | else-at-id-via-then-at-id+else-id-best w ↦ rw (le-ltb _ _ w.if-at-id.true, le-ltb _ _ w.if-id-best.false) | else-at-id-via-else-at-id w ↦ rw (lt-ltb _ _ w.if-at-id.false) ]
