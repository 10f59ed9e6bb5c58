-- `located::locate_in` meets its contract: what the opening found, or 0 and no place.
use Rattle.opening.proofs.TextLaws.{accepted-locates}
use Rattle.opening.proofs.located.locate_in.Goals as goal

pub returns-in-Ok : goal.returns-in-Ok
returns-in-Ok c = accepted-locates _ c.in-Ok.ensures.0
