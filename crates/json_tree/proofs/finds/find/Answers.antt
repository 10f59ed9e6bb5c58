use Rattle.std.proofs.Math.Nat.{sub-zero}
use Rattle.json_walk.proofs.Walks.{members-turn, members-end, members-over}
use Rattle.json_tree.specs.Inner.Members.{find_in}
use Rattle.json_walk.specs.Walk.{members_of}
use borrow.Author.Rules.{rules}
use Rattle.json_tree.proofs.finds.find.Goals as goal

pub loop-init : goal.loop-init
unfolding members_of
loop-init c = rw (sub-zero, ← c.first_member-step.ensures)

pub returns-in_err-m : goal.returns-in_err-m
unfolding find_in
returns-in_err-m c = rw (
  ← c.loop.invariant,
  c.in_err-m.was,
  members-end,
)
    (search rules)

pub returns-then-raw_is : goal.returns-then-raw_is
unfolding find_in
returns-then-raw_is c = rw (
  ← c.loop.invariant,
  c.in_ok-m.was,
  members-turn _ _ c.loop-test.true,
  ← c.raw_is.ensures,
  c.if-raw_is.true,
)

pub loop-preserved : goal.loop-preserved
unfolding find_in
loop-preserved c = rw (
  ← c.loop.invariant,
  c.in_ok-m.was,
  members-turn _ _ c.loop-test.true,
  ← c.raw_is.ensures,
  c.if-raw_is.false,
  ← c.next_member-step.ensures,
)

pub returns : goal.returns
unfolding find_in
returns c = rw (
  ← c.loop.invariant,
  members-over _ _ c.loop-test.false,
)
