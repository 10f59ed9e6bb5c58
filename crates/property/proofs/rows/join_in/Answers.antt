-- `property::rows::join_in` meets its contract.
use Rattle.fault.specs.Fault.{faults_at, first}
use Rattle.fault.proofs.Laws.{none-lower}
use mathlib.Core.Path.{sym}
use borrow.Author.Tests.{eq-eqb}
use Rattle.property.proofs.RowLaws.{place-or}
use Rattle.property.proofs.rows.join_in.Goals as goal

pub returns-then-number-eq0 : goal.returns-then-number-eq0
unfolding first faults_at
returns-then-number-eq0 c = λ l. rw (eq-eqb _ _ c.if-number-eq0.true) (sym (none-lower _))

pub returns : goal.returns
returns c = λ l. rw (← place-or _ _ _ _ c.place.ensures l, ← c.unwrap_or-stands.ensures, ← c.fault_at.ensures) c.lower.ensures
