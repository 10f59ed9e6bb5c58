-- `rule_text::rules::rule_entries` meets its contract.
use native.Mathlib.Omega.{arith}
use Rattle.std.specs.Prelude.{◌≡◌, length}
use Rattle.rule_text.proofs.EntryLaws.{rest-stop, rest-none, counting-goes-on, counting-starts, counting-ends}
use Rattle.json_walk.specs.Walk.{elements_of}
-- `rule_text::rules::rule_entries` meets its contract.
use Rattle.rule_text.proofs.rules.rule_entries.Goals as goal

pub loop-count-init : goal.loop-count-init
unfolding elements_of
loop-count-init c = rw c.first_element-step.ensures (counting-starts _ _ _ _)

pub returns-in_default : goal.returns-in_default
returns-in_default c = let p = counting-ends _ _ _ _ _ _ _ c.loop-count.invariant (rest-stop _ _ _ _ c.in_default.is) in record { count = p.0; fault = p.1 }

pub loop-count-preserved : goal.loop-count-preserved
loop-count-preserved c = counting-goes-on _ _ _ _ c.in-Some.is c.loop-count-test.true c.loop-count.invariant c.next_element-step.ensures c.lower-fault.ensures c.read_rule-one.ensures.fault

pub returns : goal.returns
returns c = let e : length c.args.text.now ≡ c.loop-count.count = omega arith in rw e (let p = counting-ends _ _ _ _ _ _ _ c.loop-count.invariant (rest-none _ _ _ _ c.loop-count-test.false _) in record { count = p.0; fault = p.1 })
