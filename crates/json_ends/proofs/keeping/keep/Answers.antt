-- `json_ends::keeping::keep` meets its contract.
use Rattle.json_ends.proofs.Laws.{ends-keep}
use Rattle.json_ends.proofs.keeping.keep.Goals as goal

pub returns-then-at-ends : goal.returns-then-at-ends
returns-then-at-ends c = ends-keep _ _ _ _ _ c.if-at-ends.true c.if-left-lt32.true c.requires.0 c.requires.1
