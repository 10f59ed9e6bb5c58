-- A value that the table knows ends where the table says.
use Rattle.json_ends.proofs.Laws.{ends-say}
use Rattle.json_ends.proofs.table.past.Goals as goal

pub returns : goal.returns
returns c = ends-say _ _ c.requires _ _ _ _ _
    c.entry-e.ensures
    c.end_of.ensures
    c.levels_of.ensures
    c.if-e-lt-STEP.false
    c.if-left-levels_of.false
