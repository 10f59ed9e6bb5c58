use Rattle.std.proofs.Math.Nat.{sub-zero}
use Rattle.json_walk.proofs.Walks.{members-turn}
use Rattle.json_names.proofs.Sorting.{repeats-here, repeats-later}
use Rattle.json_walk.specs.Walk.{members_of}
use Rattle.json_names.proofs.sorted.again.Goals as goal

pub loop-i-init : goal.loop-i-init
unfolding members_of
loop-i-init c = λ e. rw (← c.first_member-step.ensures) (rw sub-zero at e)

pub returns-then-m-name : goal.returns-then-m-name
returns-then-m-name c = λ e. c.loop-i.invariant (rw (c.in-Some.is, members-turn _ _ c.loop-i-test.true) (repeats-here _ _ _ (rw (← c.among.ensures) e)))

pub loop-i-preserved : goal.loop-i-preserved
loop-i-preserved c = λ e. c.loop-i.invariant (rw (c.in-Some.is, members-turn _ _ c.loop-i-test.true) (repeats-later _ _ _ (rw (← c.next_member-step.ensures) e)))
