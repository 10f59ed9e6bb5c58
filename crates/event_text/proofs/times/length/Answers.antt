-- `event_text::times::length` meets its contract.
use Rattle.event.specs.Reading.{optional}
use Rattle.property.proofs.RowLaws.{here, missing}
use Rattle.property.specs.Inner.Vocabulary.{vocabulary, word_of}
use Rattle.json_text.specs.Ascii.{ascii}
use Rattle.event_text.proofs.times.length.Goals as goal

pub returns-in-Some : goal.returns-in-Some
unfolding optional word_of vocabulary
returns-in-Some c = λ l. rw (here _ (ascii "duration") _ _ c.place.ensures _ c.in-Some.is l, ← (c.read_length.ensures l), ← c.lasting.ensures)

pub returns-in-None : goal.returns-in-None
unfolding optional word_of vocabulary
returns-in-None c = λ l. rw (missing _ (ascii "duration") _ _ c.place.ensures c.in-None.is l)
