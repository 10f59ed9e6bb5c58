-- `property::rows::note` meets its contract.
use Rattle.property.specs.Inner.Rows.{noted}
use borrow.Author.Tests.{eq-eqb, ne_eqb}
use Rattle.property.proofs.RowLaws.{noted-out}
use Rattle.property.proofs.rows.note.Goals as goal

pub returns-then-row-w-eq0 : goal.returns-then-row-w-eq0
unfolding noted
returns-then-row-w-eq0 c = rw (eq-eqb _ _ c.if-row-w-eq0.true)

pub returns-else-row-w-eq0 : goal.returns-else-row-w-eq0
unfolding noted
returns-else-row-w-eq0 c = rw (ne_eqb _ _ c.if-row-w-eq0.false)

pub returns-else-w-row : goal.returns-else-w-row
returns-else-w-row c = noted-out _ _ _ c.if-w-row.false
