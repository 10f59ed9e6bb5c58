use Rattle.json_walk.proofs.Walks.{members-turn, members-end, members-over}
use Rattle.json_names.specs.Inner.Names.{named}
use Rattle.json_names.proofs.names.among.Goals as goal

pub returns-in_default : goal.returns-in_default
unfolding named
returns-in_default c = rw (
  ← c.loop.invariant,
  c.in_default.is,
  members-end,
)

pub returns-then-same_raw : goal.returns-then-same_raw
unfolding named
returns-then-same_raw c = rw (
  ← c.loop.invariant,
  c.in-Some.is,
  members-turn _ _ c.loop-test.true,
  ← c.same_raw.ensures,
  c.if-same_raw.true,
)

pub loop-preserved : goal.loop-preserved
unfolding named
loop-preserved c = rw (
  ← c.loop.invariant,
  c.in-Some.is,
  members-turn _ _ c.loop-test.true,
  ← c.same_raw.ensures,
  c.if-same_raw.false,
  ← c.next_member-step-in-loop.ensures,
)

pub returns : goal.returns
unfolding named
returns c = rw (
  ← c.loop.invariant,
  members-over _ _ c.loop-test.false,
)
