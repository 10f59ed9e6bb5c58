-- `window::next::day_from` meets its contract.
use Rattle.window.specs.Inner.Next.{day_from}
use borrow.Author.Tests.{le-leb, lt-leb}
use Rattle.window.proofs.next.day_from.Goals as goal

pub returns-then-at-start : goal.returns-then-at-start
unfolding day_from
returns-then-at-start c = rw (le-leb _ _ c.if-at-start.true)

pub returns-else-at-start : goal.returns-else-at-start
unfolding day_from
returns-else-at-start c = rw (lt-leb _ _ c.if-at-start.false)
