-- `located::locate` meets its contract: a table of zeros says nothing.
use Rattle.json_ends.proofs.Laws.{ends-none}
use Rattle.opening.proofs.located.locate.Goals as goal

pub locate_in-requires : goal.locate_in-requires
locate_in-requires c = ends-none _ 2048

pub locate_in-requires-2 : goal.locate_in-requires-2
locate_in-requires-2 c = ends-none _ 65536
