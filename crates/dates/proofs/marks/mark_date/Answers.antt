-- `dates::marks::mark_date` meets its contract.
use Rattle.std.proofs.Common.{arith}
use Rattle.dates.proofs.MarkLaws.{date-not-counted, date-not-timed, date-early, date-late, date-here}
use Rattle.dates.proofs.marks.mark_date.Goals as goal
use Rattle.dates.proofs.marks.mark_date.Goals.{then-not-counted-via-then-not-counted, then-not-counted-via-else-not-counted+then-x-start, then-not-counted-via-else-not-counted+else-x-start+then-x-first}

pub returns-then-not-counted : goal.returns-then-not-counted
returns-then-not-counted c = elim c.then-not-counted.branch [ then-not-counted-via-then-not-counted w ↦ rw w.if-not-counted.true (date-not-counted _ _ _ _ _) | then-not-counted-via-else-not-counted+then-x-start w ↦ rw w.if-not-counted.false (date-not-timed _ _ _ _ _ w.if-x-start.true) | then-not-counted-via-else-not-counted+else-x-start+then-x-first w ↦ rw w.if-not-counted.false (date-early _ _ _ _ _ (omega arith)) ]

pub returns-then-i-hits : goal.returns-then-i-hits
returns-then-i-hits c = rw (c.from-first.ensures, c.if-not-counted.false) (date-here _ _ _ _ _ c.if-x-start.false (omega arith) (omega arith))

pub returns-else-i-hits : goal.returns-else-i-hits
returns-else-i-hits c = rw c.if-not-counted.false (date-late _ _ _ _ _ (omega arith))
