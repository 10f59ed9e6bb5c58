-- `rule_text::numbers::count` meets its contract.
use Rattle.rule_text.proofs.IntegerLaws.{count_at}
use Rattle.rule_text.proofs.ReadLaws.{reads-by}
use borrow.Author.Tests.{eq-eqb, ne_eqb, not-true, not-false}
use Rattle.rule_text.proofs.numbers.count.Goals as goal

pub returns-in-Some : goal.returns-in-Some
returns-in-Some c = reads-by (λ l. count_at l _ _) (rw (← c.integer.ensures, c.in-Some.is, not-true _ c.if-not-n.true, ne_eqb _ _ c.if-n-ne0.true))

pub returns-in-Some-2 : goal.returns-in-Some-2
returns-in-Some-2 c = reads-by (λ l. count_at l _ _) (rw (← c.integer.ensures, c.in-Some.is, not-true _ c.if-not-n.true, eq-eqb _ _ c.if-n-ne0.false))

pub returns-in-Some-2-2 : goal.returns-in-Some-2-2
returns-in-Some-2-2 c = reads-by (λ l. count_at l _ _) (rw (← c.integer.ensures, c.in-Some.is, not-false _ c.if-not-n.false))

pub returns-in-None : goal.returns-in-None
returns-in-None c = reads-by (λ l. count_at l _ _) (rw (← c.integer.ensures, c.in-None.is, ← c.no_integer.ensures))
