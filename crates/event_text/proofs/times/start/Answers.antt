-- `event_text::times::start` meets its contract.
use Rattle.event.specs.Reading.{required}
use Rattle.property.proofs.RowLaws.{here, missing}
use Rattle.property.specs.Inner.Vocabulary.{vocabulary, word_of}
use Rattle.json_text.specs.Ascii.{ascii}
use Rattle.event_text.proofs.times.start.Goals as goal

pub returns-in-Some : goal.returns-in-Some
unfolding required word_of vocabulary
returns-in-Some c = λ l. rw (here _ (ascii "start") _ _ c.place.ensures _ c.in-Some.is l, ← (c.read_start.ensures l), ← c.when.ensures)

pub returns-in-None : goal.returns-in-None
unfolding required word_of vocabulary
returns-in-None c = λ l. rw (missing _ (ascii "start") _ _ c.place.ensures c.in-None.is l)
