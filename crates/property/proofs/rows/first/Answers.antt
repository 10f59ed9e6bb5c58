-- `property::rows::first` meets its contract.
use Rattle.property.proofs.Fields.{first_past}
use mathlib.Core.Path.{sym}
use Rattle.property.proofs.rows.first.Goals as goal

pub returns : goal.returns
returns c = sym (first_past _ _ c.if-at-text.false)
