-- The cycle of walks: each finds a fault exactly where its definition does.
use Rattle.std.proofs.Common.{◌≡◌, false, sym, ◌∙◌, arith, rules, eq-eqb, ne_eqb}
use Rattle.json_names.specs.Inner.Names.{any_element, fault_at}
use Rattle.json_names.specs.Inner.Walked.{any_fault}
use Rattle.json_walk.specs.Walk.{elements_of, members_of}
use Rattle.std.proofs.Math.Nat.{sub-zero}
use Rattle.json_walk.proofs.Walks.{members-turn, members-end, members-over, elements-turn, elements-end, elements-over}
use Rattle.json_names.proofs.Laws.{fault-step, fault-none}
use Rattle.json_names.proofs.Walked.{object-fault, closed}
use Rattle.json_names.proofs.faults.+array_fault_object.Goals as goal
use Rattle.json_names.proofs.faults.+array_fault_object.Goals.{array-else-opens-via-then-opens+else-fault, array-else-opens-via-else-opens, object-else-opens-via-then-opens+else-fault, object-else-opens-via-else-opens, object-else-loop-test, object-then-loop-test+in_default}

pub fault-returns-then-left-eq0 : goal.fault-returns-then-left-eq0
fault-returns-then-left-eq0 t c = rw (fault-none _ c.if-left-eq0.true)

pub fault-returns-then-b-eq123 : goal.fault-returns-then-b-eq123
fault-returns-then-b-eq123 t c = rw (fault-step _ c.if-left-eq0.false, ← c.byte-b.ensures.is, eq-eqb _ _ c.if-b-eq123.true, ← c.object.ensures)

pub fault-returns-then-b-eq91 : goal.fault-returns-then-b-eq91
fault-returns-then-b-eq91 t c = rw (fault-step _ c.if-left-eq0.false, ← c.byte-b.ensures.is, ne_eqb _ _ c.if-b-eq123.false, eq-eqb _ _ c.if-b-eq91.true, ← c.array.ensures)

pub fault-returns : goal.fault-returns
fault-returns t c = rw (fault-step _ c.if-left-eq0.false, ← c.byte-b.ensures.is, ne_eqb _ _ c.if-b-eq123.false, ne_eqb _ _ c.if-b-eq91.false)

pub array-loop-init : goal.array-loop-init
unfolding elements_of
array-loop-init t c = record { finds = rw (sub-zero, ← c.first_element-step.ensures); entries = search rules; room = search rules }

pub array-returns-in_default : goal.array-returns-in_default
unfolding any_element
array-returns-in_default t c = rw (← c.loop.invariant.finds, c.in_default.is, elements-end)

pub array-returns-then-fault : goal.array-returns-then-fault
unfolding any_element
array-returns-then-fault t c = rw (← c.loop.invariant.finds, c.in-Some.is, elements-turn _ _ c.loop-test.true, ← c.fault.ensures, c.if-fault.true)

pub array-loop-preserved : goal.array-loop-preserved
unfolding any_element
array-loop-preserved t c =
    let calm : fault_at c.args.left c.args.text.now c.in-Some.e.value ≡ false =
    elim c.else-opens.branch [
      | array-else-opens-via-then-opens+else-fault w ↦ sym w.fault.ensures ∙ w.if-fault.false
      | array-else-opens-via-else-opens w ↦ closed _ _ (sym c.opens.ensures ∙ w.if-opens.false) _
    ] in
    record {
      finds = rw (← c.loop.invariant.finds, c.in-Some.is, elements-turn _ _ c.loop-test.true, calm, ← c.next_element-step.ensures);
      entries = search rules;
      room = search rules;
    }

pub array-returns : goal.array-returns
unfolding any_element
array-returns t c = rw (← c.loop.invariant.finds, elements-over _ _ c.loop-test.false)

pub object-loop-init : goal.object-loop-init
unfolding members_of
object-loop-init t c = record { finds = rw (sub-zero, ← c.first_member-step.ensures); entries = search rules; room = search rules; from_base = search rules; put_down = search rules }

pub object-returns-then-slash_named : goal.object-returns-then-slash_named
unfolding any_fault
object-returns-then-slash_named t c = rw (object-fault, ← c.loop.invariant.finds, c.in-Some.is, members-turn _ _ c.loop-test.true, ← c.slash_named.ensures, c.if-slash_named.true)

pub object-returns-then-fault : goal.object-returns-then-fault
unfolding any_fault
object-returns-then-fault t c = rw (object-fault, ← c.loop.invariant.finds, c.in-Some.is, members-turn _ _ c.loop-test.true, ← c.slash_named.ensures, c.if-slash_named.false, ← c.fault.ensures, c.if-fault.true)

pub object-loop-preserved : goal.object-loop-preserved
unfolding any_fault
object-loop-preserved t c =
    let calm : fault_at c.args.left c.args.text.now c.in-Some.m.value ≡ false =
    elim c.else-opens.branch [
      | object-else-opens-via-then-opens+else-fault w ↦ sym w.fault.ensures ∙ w.if-fault.false
      | object-else-opens-via-else-opens w ↦ closed _ _ (sym c.opens.ensures ∙ w.if-opens.false) _
    ] in
    record {
      finds = rw (← c.loop.invariant.finds, c.in-Some.is, members-turn _ _ c.loop-test.true, ← c.slash_named.ensures, c.if-slash_named.false, calm, ← c.next_member-step.ensures);
      entries = search rules;
      room = search rules;
      from_base = search rules;
      put_down = search rules;
    }

pub object-returns : goal.object-returns
unfolding any_fault
object-returns t c =
    elim c.loop-test.branch [
      | object-else-loop-test w ↦ rw (object-fault, ← c.loop.invariant.finds, members-over _ _ w.loop-test.false, ← c.repeated_from.ensures)
      | object-then-loop-test+in_default w ↦ rw (object-fault, ← c.loop.invariant.finds, w.in_default.is, members-end, ← c.repeated_from.ensures)
    ]
