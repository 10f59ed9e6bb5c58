use Rattle.std.proofs.Math.Nat.{sub-zero}
use Rattle.json_walk.proofs.Walks.{members-turn, members-end, members-over}
use Rattle.json_names.specs.Inner.Names.{repeats}
use Rattle.json_walk.specs.Walk.{members_of}
use Rattle.json_names.proofs.names.repeated.Goals as goal

pub loop-i-init : goal.loop-i-init
unfolding members_of
loop-i-init c = rw (sub-zero, ← c.first_member-step.ensures)

pub returns-in_default : goal.returns-in_default
unfolding repeats
returns-in_default c = rw (
  ← c.loop-i.invariant,
  c.in_default.is,
  members-end,
)

pub returns-then-among : goal.returns-then-among
unfolding repeats
returns-then-among c = rw (
  ← c.loop-i.invariant,
  c.in-Some.is,
  members-turn _ _ c.loop-i-test.true,
  ← c.among.ensures,
  c.if-among.true,
)

pub loop-i-preserved : goal.loop-i-preserved
unfolding repeats
loop-i-preserved c = rw (
  ← c.loop-i.invariant,
  c.in-Some.is,
  members-turn _ _ c.loop-i-test.true,
  ← c.among.ensures,
  c.if-among.false,
  ← c.next_member-step.ensures,
)

pub returns : goal.returns
unfolding repeats
returns c = rw (
  ← c.loop-i.invariant,
  members-over _ _ c.loop-i-test.false,
)
