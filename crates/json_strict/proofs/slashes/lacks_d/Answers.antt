use borrow.Author.Rules.{rules}
use borrow.Author.Tests.{eq-eqb, ne_eqb}
use Rattle.json_strict.specs.Inner.Slashes.{lacks_d}
use Rattle.json_strict.proofs.slashes.lacks_d.Goals as goal

pub returns-then-c-eq68 : goal.returns-then-c-eq68
unfolding lacks_d
returns-then-c-eq68 c = record { is = rw (eq-eqb _ _ c.if-c-eq68.true); small = search rules }

pub returns : goal.returns
unfolding lacks_d
returns c = record { is = rw (ne_eqb _ _ c.if-c-eq68.false, ← c.differs.ensures.is); small = search rules }
