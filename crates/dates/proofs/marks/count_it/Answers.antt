-- `dates::marks::count_it` meets its contract.
use Rattle.dates.specs.Inner.Overrides.{counts}
use Rattle.dates.proofs.marks.count_it.Goals as goal

pub returns-then-not-only : goal.returns-then-not-only
unfolding counts
returns-then-not-only c = rw c.if-not-only.true

pub returns-else-not-only : goal.returns-else-not-only
unfolding counts
returns-else-not-only c = rw c.if-not-only.false
