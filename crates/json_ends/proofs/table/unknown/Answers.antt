-- A table of one entry that says nothing is a table of ends of any text.
use Rattle.json_ends.proofs.Laws.{ends-none}
use Rattle.json_ends.proofs.table.unknown.Goals as goal

pub value-requires : goal.value-requires
value-requires c = ends-none _ 1
