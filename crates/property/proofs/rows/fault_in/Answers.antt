-- `property::rows::fault_in` meets its contract.
use Rattle.property.proofs.RowLaws.{place-or}
use Rattle.property.proofs.rows.fault_in.Goals as goal

pub returns : goal.returns
returns c = λ l. rw (← place-or _ _ _ _ c.place.ensures l, ← c.unwrap_or.ensures) c.fault_at.ensures
