use borrow.Author.Rules.{rules}
use borrow.Author.Tests.{eq-eqb, ne_eqb}
use Rattle.json_strict.specs.Inner.Slashes.{differ}
use Rattle.json_strict.proofs.slashes.differs.Goals as goal

pub returns-then-a-b : goal.returns-then-a-b
unfolding differ
returns-then-a-b c = record { is = rw (eq-eqb _ _ c.if-a-b.true); small = search rules }

pub returns : goal.returns
unfolding differ
returns c = record { is = rw (ne_eqb _ _ c.if-a-b.false); small = search rules }
