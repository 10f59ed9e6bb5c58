-- `event_text::judged::uid_fault` meets its contract.
use Rattle.event.specs.Reading.{required}
use Rattle.property.proofs.RowLaws.{here, missing}
use Rattle.property.specs.Inner.Vocabulary.{vocabulary, word_of}
use Rattle.json_text.specs.Ascii.{ascii}
use Rattle.event_text.proofs.judged.uid_fault.Goals as goal

pub returns-in-Some : goal.returns-in-Some
unfolding required word_of vocabulary
returns-in-Some c = λ l. rw (here _ (ascii "uid") _ _ c.place.ensures _ c.in-Some.is l) (c.read_uid.ensures l)

pub returns-in-None : goal.returns-in-None
unfolding required word_of vocabulary
returns-in-None c = λ l. rw (missing _ (ascii "uid") _ _ c.place.ensures c.in-None.is l)
