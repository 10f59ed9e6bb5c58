use Rattle.std.proofs.Common.{eq-eqb, ne_eqb}
use Rattle.json_text.proofs.WordLaws.{four_bytes}
use Rattle.json_text.proofs.words.four.Goals as goal
use Rattle.json_text.proofs.words.four.Goals.{else-byte-a-via-then-byte-a+then-byte-b+then-byte-c+else-byte-d, else-byte-a-via-then-byte-a+then-byte-b+else-byte-c, else-byte-a-via-then-byte-a+else-byte-b, else-byte-a-via-else-byte-a}

pub returns-then-byte-d : goal.returns-then-byte-d
returns-then-byte-d c = rw (
  four_bytes,
  ← c.byte.ensures.is,
  eq-eqb _ _ c.if-byte-a.true,
  ← c.byte-then-byte-a.ensures.is,
  eq-eqb _ _ c.if-byte-b.true,
  ← c.byte-then-byte-b.ensures.is,
  eq-eqb _ _ c.if-byte-c.true,
  ← c.byte-then-byte-c.ensures.is,
  eq-eqb _ _ c.if-byte-d.true,
)

pub returns : goal.returns
returns c = elim c.else-byte-a.branch [
  | else-byte-a-via-then-byte-a+then-byte-b+then-byte-c+else-byte-d w ↦ rw (
    four_bytes,
    ← c.byte.ensures.is,
    eq-eqb _ _ w.if-byte-a.true,
    ← w.byte-then-byte-a.ensures.is,
    eq-eqb _ _ w.if-byte-b.true,
    ← w.byte-then-byte-b.ensures.is,
    eq-eqb _ _ w.if-byte-c.true,
    ← w.byte-then-byte-c.ensures.is,
    ne_eqb _ _ w.if-byte-d.false,
  )
  | else-byte-a-via-then-byte-a+then-byte-b+else-byte-c w ↦ rw (
    four_bytes,
    ← c.byte.ensures.is,
    eq-eqb _ _ w.if-byte-a.true,
    ← w.byte-then-byte-a.ensures.is,
    eq-eqb _ _ w.if-byte-b.true,
    ← w.byte-then-byte-b.ensures.is,
    ne_eqb _ _ w.if-byte-c.false,
  )
  | else-byte-a-via-then-byte-a+else-byte-b w ↦ rw (
    four_bytes,
    ← c.byte.ensures.is,
    eq-eqb _ _ w.if-byte-a.true,
    ← w.byte-then-byte-a.ensures.is,
    ne_eqb _ _ w.if-byte-b.false,
  )
  | else-byte-a-via-else-byte-a w ↦ rw (four_bytes, ← c.byte.ensures.is, ne_eqb _ _ w.if-byte-a.false)
]
