-- `rule_text::rules::rule_by` meets its contract.
use Rattle.rule_text.proofs.RuleLaws.{rule-made}
use Rattle.property.specs.Inner.Vocabulary.{vocabulary, word_of}
use native.Mathlib.Omega.{arith}
use Rattle.rule_text.proofs.rules.rule_by.Goals as goal

pub weekdays-days-requires : goal.weekdays-days-requires
weekdays-days-requires c = c.requires

pub numbers-dates-requires : goal.numbers-dates-requires
numbers-dates-requires c = (c.requires.0, (c.requires.1.0, omega (arith, c.requires.1.1)))

pub months-year-requires : goal.months-year-requires
months-year-requires c = c.requires

pub numbers-positions-requires : goal.numbers-positions-requires
numbers-positions-requires c = (c.requires.0, (c.requires.1.0, omega (arith, c.requires.1.1)))

pub read_ends-ending-requires : goal.read_ends-ending-requires
read_ends-ending-requires c = c.requires.1

pub other_fault-other-requires : goal.other_fault-other-requires
other_fault-other-requires c = c.requires.1

pub returns : goal.returns
unfolding word_of vocabulary
returns c = rule-made _ _ c.read_head-head.ensures c.weekdays-days.ensures c.numbers-dates.ensures c.months-year.ensures c.numbers-positions.ensures c.read_ends-ending.ensures c.nth_fault-nth.ensures c.other_fault-other.ensures c.join-fault.ensures
