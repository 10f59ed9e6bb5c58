-- `rule_text::heads::read_head` meets its contract.
use Rattle.event.specs.Reading.{Reading, placed}
use Rattle.rule.specs.declared.Frequency.{Frequency}
use Rattle.fault.specs.Fault.{lower}
use Rattle.fault.proofs.Laws.{first-all}
use Rattle.property.specs.Inner.Vocabulary.{vocabulary, word_of}
use mathlib.Core.Path.{ap, sym, ◌∙◌}
use Prim.Native.Nat.{ℕ}
use native.Mathlib.Omega.{arith}
use Rattle.rule_text.proofs.heads.read_head.Goals as goal

pub type_in-kind-requires : goal.type_in-kind-requires
type_in-kind-requires c = (c.requires.0, omega (arith, c.requires.1))

pub fault_in-week-requires : goal.fault_in-week-requires
fault_in-week-requires c = (c.requires.0, omega (arith, c.requires.1))

pub join_in-step-requires : goal.join_in-step-requires
join_in-step-requires c = (c.requires.0, omega (arith, c.requires.1))

pub join_in-often-requires : goal.join_in-often-requires
join_in-often-requires c = (c.requires.0, omega (arith, c.requires.1))

pub join_in-requires : goal.join_in-requires
join_in-requires c = (c.requires.0, omega (arith, c.requires.1))

pub returns : goal.returns
unfolding placed word_of vocabulary
returns c = record {
  frequency = λ l. c.frequency_of.ensures ∙ ap (λ (r : Reading Frequency). r.value) (c.frequency_in-rate.ensures l);
  interval = c.interval_in-interval.ensures.value;
  week = λ l. c.number_of.ensures ∙ ap (λ (r : Reading ℕ). r.value) (c.first_in-first.ensures l);
  fault = λ l. rw (
    ← (c.frequency_in-rate.ensures l),
    ← c.rate_fault.ensures,
    ← (c.interval_in-interval.ensures.fault l),
    ← (c.first_in-first.ensures l),
    ← c.fault_of.ensures,
    ← (c.type_in-kind.ensures l),
  ) (c.join_in.ensures l ∙ ap (lower _) (c.join_in-often.ensures l ∙ ap (lower _) (c.join_in-step.ensures l ∙ ap (lower _) (c.fault_in-week.ensures l))) ∙ sym (first-all _));
}
