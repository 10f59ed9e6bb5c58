-- `property::rows::place` meets its contract.
use Rattle.property.proofs.RowLaws.{says_none, says_at}
use borrow.Author.Rules.{rules}
use Rattle.property.proofs.rows.place.Goals as goal

pub returns-then-i-eq0 : goal.returns-then-i-eq0
returns-then-i-eq0 c = says_none _ _ _ c.requires.0 _ (search rules) c.if-i-eq0.true

pub returns : goal.returns
returns c = says_at _ _ _ c.requires.0 _ (search rules) c.if-i-eq0.false
