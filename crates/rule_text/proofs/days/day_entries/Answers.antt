-- `rule_text::days::day_entries` meets its contract.
use native.Mathlib.Omega.{arith}
use Rattle.rule_text.proofs.DayLaws.{flagging-starts, flagging-goes-on, days-end, nday-nth}
use Rattle.std.specs.Prelude.{◌≡◌, length}
use Rattle.rule_text.proofs.EntryLaws.{rest-stop, rest-none, counting-goes-on, storing-goes-on, counting-starts, storing-starts}
use Rattle.rule.specs.Inner.Read.{nth_from}
use Rattle.signed.proofs.Parts.{back}
use Rattle.json_walk.specs.Walk.{elements_of}
use mathlib.Core.Path.{ap, ◌∙◌}
-- `rule_text::days::day_entries` meets its contract.
use Rattle.rule_text.proofs.days.day_entries.Goals as goal

pub loop-count-init : goal.loop-count-init
unfolding elements_of
loop-count-init c = rw c.first_element-step.ensures (counting-starts _ _ _ _, (storing-starts _ _ _ _ _ _, (storing-starts _ _ _ _ _ _, flagging-starts _ _ _)))

pub next_element-step-requires : goal.next_element-step-requires
next_element-step-requires c = c.requires.1

pub shape_of-weekdays-in_default : goal.shape_of-weekdays-in_default
shape_of-weekdays-in_default c = c.loop-count.invariant.1.0.same

pub shape_of-nths-in_default : goal.shape_of-nths-in_default
shape_of-nths-in_default c = c.loop-count.invariant.1.1.0.same

pub returns-in_default : goal.returns-in_default
returns-in_default c = days-end _ _ _ _ _ _ _ c.loop-count.invariant.0 c.loop-count.invariant.1.0 c.loop-count.invariant.1.1.0 c.loop-count.invariant.1.1.1 (rest-stop _ _ _ _ c.in_default.is)

pub loop-count-preserved : goal.loop-count-preserved
loop-count-preserved c = (
  counting-goes-on _ _ _ _ c.in-Some.is c.loop-count-test.true c.loop-count.invariant.0 c.next_element-step.ensures c.lower-fault.ensures c.read_nday-one.ensures.fault,
  (
    storing-goes-on _ _ _ _ _ c.in-Some.is c.loop-count-test.true c.loop-count.invariant.1.0 c.next_element-step.ensures c.put.ensures c.read_nday-one.ensures.day,
    (
      storing-goes-on _ _ _ _ _ c.in-Some.is c.loop-count-test.true c.loop-count.invariant.1.1.0 c.next_element-step.ensures c.put-in-loop-count.ensures (λ l. rw (back c.read_nday-one.result.nth c.struct_told-1.given.1.0.1) (c.read_nday-one.ensures.nth l)),
      flagging-goes-on _ _ _ _ c.in-Some.is c.loop-count-test.true c.loop-count.invariant.1.1.1 c.next_element-step.ensures c.or_nth-nth.ensures (λ l. rw (back c.read_nday-one.result.nth c.struct_told-1.given.1.0.1) (ap nth_from (c.read_nday-one.ensures.nth l) ∙ nday-nth _)),
    ),
  ),
)

pub shape_of-weekdays : goal.shape_of-weekdays
shape_of-weekdays c = c.loop-count.invariant.1.0.same

pub shape_of-nths : goal.shape_of-nths
shape_of-nths c = c.loop-count.invariant.1.1.0.same

pub returns : goal.returns
returns c = let e : length c.args.text.now ≡ c.loop-count.count = omega arith in rw e (days-end _ _ _ _ _ _ _ c.loop-count.invariant.0 c.loop-count.invariant.1.0 c.loop-count.invariant.1.1.0 c.loop-count.invariant.1.1.1 (rest-none _ _ _ _ c.loop-count-test.false _))
