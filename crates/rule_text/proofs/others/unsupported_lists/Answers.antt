-- `rule_text::others::unsupported_lists` meets its contract.
use Rattle.event.specs.Rules.{unsupported_lists}
use Rattle.fault.specs.Fault.{lower}
use Rattle.fault.proofs.Laws.{lower-none, first-all}
use mathlib.Core.Path.{ap, sym, ◌∙◌}
use Rattle.property.specs.Inner.Vocabulary.{vocabulary, word_of}
use Rattle.rule_text.proofs.others.unsupported_lists.Goals as goal

pub returns : goal.returns
unfolding unsupported_lists word_of vocabulary
returns c = λ l. c.unsupported_in.ensures l
    ∙ ap (lower _) (c.unsupported_in-week.ensures l
    ∙ ap (lower _) (c.unsupported_in-hour.ensures l
    ∙ ap (lower _) (c.unsupported_in-minute.ensures l ∙ ap (lower _) (c.unsupported_in-second.ensures l ∙ lower-none _))))
    ∙ sym (first-all _)
