-- `event_text::heads::head_by` meets its contract.
use mathlib.Core.Path.{ap}
use Rattle.fault.proofs.Laws.{first-all}
use Rattle.event.specs.Types.{Details}
use Rattle.event.specs.Reading.{placed}
use Rattle.event.specs.Inner.Decided.{Decided}
use Rattle.event_text.specs.Inner.Front.{front_in}
use Rattle.property.proofs.RowLaws.{value}
use Rattle.property.specs.Inner.Vocabulary.{vocabulary, word_of}
use Rattle.json_text.specs.Ascii.{ascii}
use Rattle.event_text.proofs.heads.head_by.Goals as goal

pub returns : goal.returns
unfolding front_in placed word_of vocabulary
returns c = λ l. rw (
  ← (c.uid_fault.ensures l),
  ← (c.updated_fault.ensures l),
  ← (c.zone-zone.ensures l),
  ← (c.privacy-access.ensures l),
  ← (value _ (ascii "recurrenceRules") _ _ c.place-rules.ensures l),
  ← (value _ (ascii "excludedRecurrenceRules") _ _ c.place-excluded.ensures l),
  ← (value _ (ascii "recurrenceOverrides") _ _ c.place-overrides.ensures l),
  ← (ap (λ (d : Decided Details). d.value) (c.own_details-own.ensures l)),
  first-all,
  ← (ap (λ (d : Decided Details). d.fault) (c.own_details-own.ensures l)),
  ← (c.fault_in-uid.ensures l),
  ← (c.fault_in-updated.ensures l),
  ← (c.fault_in-named.ensures l),
  ← (c.fault_in-shown.ensures l),
  ← (c.id_fault.ensures l),
  ← c.lower-rest.ensures,
  ← c.lower.ensures,
  ← c.lower-2.ensures,
  ← c.lower-3.ensures,
  ← c.lower-fault.ensures,
)
