use Rattle.std.proofs.Common.{sym, ◌∙◌}
use Rattle.std.proofs.Math.Nat.{sub-zero}
use Rattle.json_walk.proofs.Walks.{members-turn, members-end, members-over}
use Rattle.json_walk.specs.Walk.{members_of}
use Rattle.json_names.proofs.sorted.covered.Goals as goal

pub loop-init : goal.loop-init
unfolding members_of
loop-init c = λ e. rw (← c.first_member-step.ensures) (rw sub-zero at e)

pub returns-in_default : goal.returns-in_default
returns-in_default c = λ e. c.loop.invariant (rw (c.in_default.is, members-end) tt)

pub loop-preserved : goal.loop-preserved
loop-preserved c = λ e.
    c.loop.invariant (rw (c.in-Some.is, members-turn _ _ c.loop-test.true) (
      c.if-m-last.false,
      (
        record {
          t = c.locate-t.result;
          below = c.if-k-t.false;
          name = rw (← c.entry-e.ensures) (sym c.name_of.ensures ∙ c.if-name_of-m.false);
          stop = rw (← c.entry-e.ensures) (sym c.stop_of.ensures ∙ c.if-stop_of-m.false);
        },
        rw (← c.next_member-step.ensures) e,
      ),
    ))

pub returns : goal.returns
returns c = λ e. c.loop.invariant (rw (members-over _ _ c.loop-test.false) tt)
