-- The cycle of readers: each reads as its definition says, and keeps the table of ends true.
use Rattle.json_value.proofs.Laws.{array-none, array-step, object-none, object-step, value-step}
use Rattle.json_value.specs.Values.{array_of, object_of, value_of}
use Rattle.json_value.specs.Inner.Groups.{array_at, object_at}
use Rattle.std.proofs.Math.Nat.{sub-zero}
use Rattle.json_ends.proofs.Laws.{elements-turn, elements-over, members-turn, members-over, wrong-stays}
use borrow.Author.Rules.{rules}
use borrow.Author.Tests.{eq-eqb, ne_eqb}
use Rattle.json_ends.proofs.reading.+array_object_value.Goals as goal

pub array-returns-then-left-eq0 : goal.array-returns-then-left-eq0
unfolding array_at array_of
array-returns-then-left-eq0 t c = record { is = rw (array-none _ c.if-left-eq0.true); ends = search rules }

pub array-returns-in-Done : goal.array-returns-in-Done
unfolding array_at array_of
array-returns-in-Done t c = record {
  is = rw (
    array-step _ c.if-left-eq0.false,
    ← c.first.ensures,
    c.in-Done.is,
  );
  ends = search rules;
}

pub array-loop-init : goal.array-loop-init
unfolding array_at array_of
array-loop-init t c = record {
  reads = rw (
    sub-zero,
    array-step _ c.if-left-eq0.false,
    ← c.first.ensures,
    c.in-More.is,
  );
  size = search rules;
  ends = search rules;
}

pub array-returns-in_default : goal.array-returns-in_default
unfolding array_at array_of
array-returns-in_default t c = record {
  is = rw (
    ← c.loop.invariant.reads,
    elements-turn _ _ c.loop-test.true,
    ← c.value.ensures.is,
  )
      (wrong-stays _ c.in_default.not-To _);
  ends = search rules;
}

pub array-returns-in-Err : goal.array-returns-in-Err
unfolding array_at array_of
array-returns-in-Err t c = record {
  is = rw (
    c.reading_of.ensures,
    ← c.loop.invariant.reads,
    elements-turn _ _ c.loop-test.true,
    ← c.value.ensures.is,
    c.in-To.is,
    ← c.after.ensures,
    c.in-Err.is,
  );
  ends = search rules;
}

pub array-returns-in-Ok-Done : goal.array-returns-in-Ok-Done
unfolding array_at array_of
array-returns-in-Ok-Done t c = record {
  is = rw (
    ← c.loop.invariant.reads,
    elements-turn _ _ c.loop-test.true,
    ← c.value.ensures.is,
    c.in-To.is,
    ← c.after.ensures,
    c.in-Ok-Done.is,
    c.in-Ok-Done.field-0-is,
  );
  ends = search rules;
}

pub array-loop-preserved : goal.array-loop-preserved
unfolding array_at array_of
array-loop-preserved t c = record {
  reads = rw (
    ← c.loop.invariant.reads,
    elements-turn _ _ c.loop-test.true,
    ← c.value.ensures.is,
    c.in-To.is,
    ← c.after.ensures,
    c.in-Ok-More.is,
    c.in-Ok-More.field-0-is,
  );
  size = search rules;
  ends = search rules;
}

pub array-returns : goal.array-returns
unfolding array_at array_of
array-returns t c = record {
  is = rw (
    ← c.loop.invariant.reads,
    elements-over _ _ c.loop-test.false,
  );
  ends = search rules;
}

pub object-returns-then-left-eq0 : goal.object-returns-then-left-eq0
unfolding object_at object_of
object-returns-then-left-eq0 t c = record { is = rw (object-none _ c.if-left-eq0.true); ends = search rules }

pub object-returns-in-Done : goal.object-returns-in-Done
unfolding object_at object_of
object-returns-in-Done t c = record {
  is = rw (
    object-step _ c.if-left-eq0.false,
    ← c.first.ensures,
    c.in-Done.is,
  );
  ends = search rules;
}

pub object-loop-init : goal.object-loop-init
unfolding object_at object_of
object-loop-init t c = record {
  reads = rw (
    sub-zero,
    object-step _ c.if-left-eq0.false,
    ← c.first.ensures,
    c.in-More.is,
  );
  size = search rules;
  ends = search rules;
}

pub object-returns-in-Err : goal.object-returns-in-Err
unfolding object_at object_of
object-returns-in-Err t c = record {
  is = rw (
    c.reading_of.ensures,
    ← c.loop.invariant.reads,
    members-turn _ _ c.loop-test.true,
    ← c.name.ensures.is,
    c.in-Err.is,
  );
  ends = search rules;
}

pub object-returns-in_default : goal.object-returns-in_default
unfolding object_at object_of
object-returns-in_default t c = record {
  is = rw (
    ← c.loop.invariant.reads,
    members-turn _ _ c.loop-test.true,
    ← c.name.ensures.is,
    c.in-Ok.is,
    ← c.value.ensures.is,
  )
      (wrong-stays _ c.in_default.not-To _);
  ends = search rules;
}

pub object-returns-in-Err-after : goal.object-returns-in-Err-after
unfolding object_at object_of
object-returns-in-Err-after t c = record {
  is = rw (
    c.reading_of-in-Err-after.ensures,
    ← c.loop.invariant.reads,
    members-turn _ _ c.loop-test.true,
    ← c.name.ensures.is,
    c.in-Ok.is,
    ← c.value.ensures.is,
    c.in-To.is,
    ← c.after.ensures,
    c.in-Err-after.is,
  );
  ends = search rules;
}

pub object-returns-in-Ok-Done : goal.object-returns-in-Ok-Done
unfolding object_at object_of
object-returns-in-Ok-Done t c = record {
  is = rw (
    ← c.loop.invariant.reads,
    members-turn _ _ c.loop-test.true,
    ← c.name.ensures.is,
    c.in-Ok.is,
    ← c.value.ensures.is,
    c.in-To.is,
    ← c.after.ensures,
    c.in-Ok-Done.is,
    c.in-Ok-Done.field-0-is,
  );
  ends = search rules;
}

pub object-loop-preserved : goal.object-loop-preserved
unfolding object_at object_of
object-loop-preserved t c = record {
  reads = rw (
    ← c.loop.invariant.reads,
    members-turn _ _ c.loop-test.true,
    ← c.name.ensures.is,
    c.in-Ok.is,
    ← c.value.ensures.is,
    c.in-To.is,
    ← c.after.ensures,
    c.in-Ok-More.is,
    c.in-Ok-More.field-0-is,
  );
  size = search rules;
  ends = search rules;
}

pub object-returns : goal.object-returns
unfolding object_at object_of
object-returns t c = record {
  is = rw (
    ← c.loop.invariant.reads,
    members-over _ _ c.loop-test.false,
  );
  ends = search rules;
}

pub value-object-found-requires : goal.value-object-found-requires
value-object-found-requires t c = (search rules, (search rules, search rules))

pub value-note-requires : goal.value-note-requires
unfolding value_of
value-note-requires t c = (rw (value-step, ← c.byte-b.ensures.is, eq-eqb _ _ c.if-b-eq123.true, ← c.object-found.ensures.is), search rules)

pub value-array-found-requires : goal.value-array-found-requires
value-array-found-requires t c = (search rules, (search rules, search rules))

pub value-note-requires-then-b-eq91 : goal.value-note-requires-then-b-eq91
unfolding value_of
value-note-requires-then-b-eq91 t c = (rw (value-step, ← c.byte-b.ensures.is, ne_eqb _ _ c.if-b-eq123.false, eq-eqb _ _ c.if-b-eq91.true, ← c.array-found.ensures.is), search rules)

pub value-note-requires-2 : goal.value-note-requires-2
unfolding value_of
value-note-requires-2 t c = (rw (c.reading_of-found.ensures, value-step, ← c.byte-b.ensures.is, ne_eqb _ _ c.if-b-eq123.false, ne_eqb _ _ c.if-b-eq91.false, ← c.scalar.ensures), search rules)
