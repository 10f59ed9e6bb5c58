-- `texts::parts::between` meets its contract.
use Rattle.texts.specs.Inner.Shown.{spanned}
use borrow.Author.Tests.{eq-eqb, ne_eqb}
use Rattle.texts.proofs.parts.between.Goals as goal

pub returns-then-length-eq0 : goal.returns-then-length-eq0
unfolding spanned
returns-then-length-eq0 c = rw (eq-eqb _ _ c.if-length-eq0.true)

pub returns : goal.returns
unfolding spanned
returns c = rw (ne_eqb _ _ c.if-length-eq0.false)
