-- `rule_text::members::nth_in` meets its contract.
use Rattle.rule_text.proofs.IntegerLaws.{nth_read}
use Rattle.event.specs.Reading.{maybe}
use Rattle.event.specs.Rules.{read_nth}
use Rattle.rule.specs.Inner.Read.{nth_from}
use native.Mathlib.Omega.{arith}
use mathlib.Core.Path.{ap, ◌∙◌}
use Rattle.property.proofs.RowLaws.{here, missing}
use Rattle.property.specs.Inner.Vocabulary.{vocabulary, word_of}
use Rattle.json_text.specs.Ascii.{ascii}
use Rattle.rule_text.proofs.members.nth_in.Goals as goal

pub returns-in-Some : goal.returns-in-Some
unfolding read_nth maybe word_of vocabulary
returns-in-Some c = record { value = λ l. rw (here _ (ascii "nthOfPeriod") _ _ c.place.ensures _ c.in-Some.is l) (ap nth_from (c.signed_up_to.ensures.value l) ∙ nth_read 53 (omega arith) _); fault = λ l. rw (here _ (ascii "nthOfPeriod") _ _ c.place.ensures _ c.in-Some.is l) (c.signed_up_to.ensures.fault l) }

pub returns-in-None : goal.returns-in-None
unfolding read_nth maybe nth_from word_of vocabulary
returns-in-None c = record { value = λ l. rw (missing _ (ascii "nthOfPeriod") _ _ c.place.ensures c.in-None.is l); fault = λ l. rw (missing _ (ascii "nthOfPeriod") _ _ c.place.ensures c.in-None.is l) }
