-- `event_text::marks::busy` meets its contract.
use Rattle.event.specs.Reading.{optional}
use Rattle.property.proofs.RowLaws.{here, missing}
use Rattle.property.specs.Inner.Vocabulary.{vocabulary, word_of}
use Rattle.json_text.specs.Ascii.{ascii}
use Rattle.event_text.proofs.marks.busy.Goals as goal

pub returns-in-Some : goal.returns-in-Some
unfolding optional word_of vocabulary
returns-in-Some c = λ l. rw (here _ (ascii "freeBusyStatus") _ _ c.place.ensures _ c.in-Some.is l, ← (c.read_busy.ensures l), ← c.status.ensures)

pub returns-in-None : goal.returns-in-None
unfolding optional word_of vocabulary
returns-in-None c = λ l. rw (missing _ (ascii "freeBusyStatus") _ _ c.place.ensures c.in-None.is l)
