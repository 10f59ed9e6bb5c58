-- `event_text::own::own_details` meets its contract.
use Rattle.fault.proofs.Laws.{first-all}
use Rattle.event.specs.Event.{details_in}
use Rattle.event.specs.Reading.{placed}
use Rattle.property.specs.Inner.Vocabulary.{vocabulary, word_of}
use Rattle.event_text.proofs.own.own_details.Goals as goal

pub returns : goal.returns
unfolding details_in placed word_of vocabulary
returns c = λ l. rw (
  ← (c.start-start.ensures l),
  ← (c.length-length.ensures l),
  ← (c.busy-busy.ensures l),
  ← (c.all_day-allday.ensures l),
  ← (c.words-title.ensures l),
  ← (c.words-description.ensures l),
  first-all,
  ← (c.fault_in-first.ensures l),
  ← (c.fault_in-second.ensures l),
  ← (c.fault_in-third.ensures l),
  ← (c.fault_in-fourth.ensures l),
  ← (c.fault_in-fifth.ensures l),
  ← (c.fault_in-sixth.ensures l),
  ← c.lower-texts.ensures,
  ← c.lower.ensures,
  ← c.lower-marks.ensures,
  ← c.lower-2.ensures,
  ← c.lower-fault.ensures,
)
