-- `property::names::read_uid` meets its contract.
use mathlib.Core.Path.{◌∙◌}
use Rattle.event.specs.Properties.{read_uid}
use Rattle.property.proofs.Readings.{uid-fault}
use Rattle.property.proofs.names.read_uid.Goals as goal

pub returns : goal.returns
unfolding read_uid
returns c = λ l. c.filled_fault.ensures ∙ uid-fault l _ _
