-- `event_text::judged::id_fault` meets its contract.
use Rattle.fault.specs.Fault.{first}
use Rattle.json_tree.proofs.Trees.{place-tree}
use Rattle.event.specs.Reading.{unsupported}
use Rattle.property.proofs.RowLaws.{here, missing}
use Rattle.property.specs.Inner.Vocabulary.{vocabulary, word_of}
use Rattle.json_text.specs.Ascii.{ascii}
use borrow.Author.Rules.{rules}
use Rattle.event_text.proofs.judged.id_fault.Goals as goal

pub returns-in_err-place : goal.returns-in_err-place
unfolding unsupported word_of vocabulary first
returns-in_err-place c = λ l. rw (missing _ (ascii "recurrenceId") _ _ c.place.ensures c.in_err-place.was l) (search rules)

pub returns : goal.returns
unfolding unsupported word_of vocabulary
returns c = λ l. rw (here _ (ascii "recurrenceId") _ _ c.place.ensures _ c.in_ok-place.was l, place-tree l) c.fault_at.ensures
