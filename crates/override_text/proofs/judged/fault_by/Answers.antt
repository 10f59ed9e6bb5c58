-- `override_text::judged::fault_by` meets its contract: each property by its reader, and the faults joined.
use Rattle.event.specs.Overrides.{patch_in, excluded_fault}
use Rattle.event.specs.Reading.{placed}
use Rattle.fault.proofs.Laws.{first-all}
use Rattle.override_text.proofs.NameLaws.{alone-tree, names-tree}
use Rattle.property.specs.Inner.Vocabulary.{vocabulary, word_of}
use Rattle.override_text.proofs.judged.fault_by.Goals as goal

pub returns : goal.returns
unfolding patch_in placed excluded_fault word_of vocabulary
returns c = λ l. rw (
  ← (c.start-when.ensures l),
  ← (c.length-lasting.ensures l),
  ← (c.busy-status.ensures l),
  ← (c.flag-allday.ensures l),
  ← (c.passage-title.ensures l),
  ← (c.passage-description.ensures l),
  ← (c.flag-excluded.ensures l),
  first-all,
  ← alone-tree,
  ← c.excluded_fault.ensures,
  ← names-tree,
  ← c.names_fault.ensures,
  ← c.lower-rest.ensures,
  ← (c.join_in-seventh.ensures l),
  ← (c.join_in-sixth.ensures l),
  ← (c.join_in-fifth.ensures l),
  ← (c.join_in-fourth.ensures l),
  ← (c.join_in-third.ensures l),
  ← (c.join_in-second.ensures l),
  ← (c.join_in.ensures l),
)
