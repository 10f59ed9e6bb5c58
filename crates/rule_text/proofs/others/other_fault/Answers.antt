-- `rule_text::others::other_fault` meets its contract.
use Rattle.fault.specs.Fault.{lower}
use Rattle.fault.proofs.Laws.{first-all}
use Rattle.event.specs.Reading.{placed}
use Rattle.property.specs.Inner.Vocabulary.{vocabulary, word_of}
use native.Mathlib.Omega.{arith}
use mathlib.Core.Path.{ap, sym, ◌∙◌}
use Rattle.rule_text.proofs.others.other_fault.Goals as goal

pub join_in-skip-requires : goal.join_in-skip-requires
join_in-skip-requires c = (c.requires.0, omega (arith, c.requires.1))

pub join_in-requires : goal.join_in-requires
join_in-requires c = (c.requires.0, omega (arith, c.requires.1))

pub returns : goal.returns
unfolding placed word_of vocabulary
returns c = λ l. rw (← (c.scale_in.ensures l), ← (c.skip_in.ensures l))
    (c.join_in.ensures l ∙ ap (lower _) (c.join_in-skip.ensures l ∙ ap (lower _) (c.unsupported_lists-lists.ensures l)) ∙ sym (first-all _))
