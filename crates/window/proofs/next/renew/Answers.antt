-- `window::next::renew` meets its contract.
use borrow.Author.Tests.{le-ltb, lt-ltb}
use Rattle.window.specs.Inner.Next.{renewed}
use Rattle.window.proofs.next.renew.Goals as goal

pub returns-then-pending-at : goal.returns-then-pending-at
unfolding renewed
returns-then-pending-at c = rw (lt-ltb _ _ c.if-pending-at.true) c.next_kept.ensures

pub returns-else-pending-at : goal.returns-else-pending-at
unfolding renewed
returns-else-pending-at c = rw (le-ltb _ _ c.if-pending-at.false)
