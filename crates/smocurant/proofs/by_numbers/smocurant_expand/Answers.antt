-- `smocurant_expand` meets its contract: a table of zeros says nothing.
use Rattle.json_ends.proofs.Laws.{ends-none}
use Rattle.smocurant.proofs.by_numbers.smocurant_expand.Goals as goal

pub expand_in-done-requires : goal.expand_in-done-requires
expand_in-done-requires c = ends-none _ 2048

pub expand_in-done-requires-2 : goal.expand_in-done-requires-2
expand_in-done-requires-2 c = ends-none _ 65536
