-- `rule_text::lists::list_in` meets its contract.
use Rattle.rule_text.specs.Inner.Lists.{list_place}
use borrow.Author.Tests.{eq-eqb, ne_eqb}
use mathlib.Core.Path.{refl}
use borrow.Author.Rules.{rules}
use Rattle.rule_text.proofs.lists.list_in.Goals as goal

pub returns-then-byte-eq91 : goal.returns-then-byte-eq91
unfolding list_place
returns-then-byte-eq91 c = record { is = rw (← c.place.ensures, c.in-Some.is, ← c.byte.ensures.is, eq-eqb _ _ c.if-byte-eq91.true); within = search rules }

pub returns-else-byte-eq91 : goal.returns-else-byte-eq91
unfolding list_place
returns-else-byte-eq91 c = record { is = rw (← c.place.ensures, c.in-Some.is, ← c.byte.ensures.is, ne_eqb _ _ c.if-byte-eq91.false); within = refl }

pub returns-in-None : goal.returns-in-None
unfolding list_place
returns-in-None c = record { is = rw (← c.place.ensures, c.in-None.is); within = refl }
