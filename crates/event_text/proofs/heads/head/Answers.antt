-- `event_text::heads::head` meets its contract.
use borrow.Author.Tests.{eq-eqb, ne_eqb}
use Rattle.event_text.specs.Inner.Front.{inner}
use Rattle.event_text.proofs.Objects.{front-object, front-none}
use Rattle.event_text.proofs.heads.head.Goals as goal

pub returns-then-byte-ne123 : goal.returns-then-byte-ne123
returns-then-byte-ne123 c = rw (front-none _ _ _ c.space-at.ensures c.byte.ensures.is (ne_eqb _ _ c.if-byte-ne123.true)) (c.head_at.ensures inner)

pub returns : goal.returns
returns c = rw (front-object _ _ _ c.space-at.ensures c.byte.ensures.is (eq-eqb _ _ c.if-byte-ne123.false)) (c.head_at-2.ensures inner)
