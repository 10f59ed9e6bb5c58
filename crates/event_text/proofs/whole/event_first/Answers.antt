-- `event_text::whole::event_first` meets its contract.
use borrow.Author.Tests.{eq-eqb, ne_eqb}
use native.Mathlib.Omega.{arith}
use Rattle.event_text.proofs.Events.{five-front, first-none, first_some}
use Rattle.event_text.proofs.Objects.{tree-object, tree-none}
use Rattle.event_text.specs.Inner.Front.{inner}
use Rattle.event_text.proofs.whole.event_first.Goals as goal
use Rattle.event_text.proofs.whole.event_first.Goals.{then-byte-ne-BRACE-via-then-byte-ne-BRACE, then-byte-ne-BRACE-via-else-byte-ne-BRACE+then-no_event}

pub returns-then-byte-ne-BRACE : goal.returns-then-byte-ne-BRACE
returns-then-byte-ne-BRACE c =
    let five = five-front _ _ c.fault_at.ensures (omega arith) in
    elim c.then-byte-ne-BRACE.branch [
      | then-byte-ne-BRACE-via-then-byte-ne-BRACE w ↦ rw (first-none _ (tree-none _ _ _ c.space-at.ensures c.byte.ensures.is (ne_eqb _ _ w.if-byte-ne-BRACE.true))) five
      | then-byte-ne-BRACE-via-else-byte-ne-BRACE+then-no_event w ↦
          rw (
            first_some _ _ (tree-object _ _ _ c.space-at.ensures c.byte.ensures.is (eq-eqb _ _ w.if-byte-ne-BRACE.false)),
            ← (w.no_event.ensures inner),
            w.if-no_event.true,
          ) five
    ]

pub returns : goal.returns
returns c = let object = tree-object _ _ _ c.space-at.ensures c.byte.ensures.is (eq-eqb _ _ c.if-byte-ne-BRACE.false) in
    rw (
      first_some _ _ object,
      ← (c.no_event.ensures inner),
      c.if-no_event.false,
      ← c.requires.1,
      ← c.lists_fault.ensures,
    )
    c.lower.ensures
