-- `property::nulls::is_null` meets its contract.
use Rattle.property.proofs.Words.{null-tree}
use Rattle.property.proofs.nulls.is_null.Goals as goal

pub returns : goal.returns
returns c = λ l. rw (null-tree l, ← c.byte.ensures.is)
