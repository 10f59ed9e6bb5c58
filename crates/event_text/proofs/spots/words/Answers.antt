-- `event_text::spots::words` meets its contract.
use Rattle.event.specs.Reading.{optional}
use Rattle.property.proofs.RowLaws.{here, missing}
use Rattle.event_text.proofs.spots.words.Goals as goal

pub returns-in-Some : goal.returns-in-Some
unfolding optional
returns-in-Some c = λ l. rw (here _ _ _ _ c.place.ensures _ c.in-Some.is l, ← (c.read_text.ensures l), ← c.shown.ensures)

pub returns-in-None : goal.returns-in-None
unfolding optional
returns-in-None c = λ l. rw (missing _ _ _ _ c.place.ensures c.in-None.is l)
