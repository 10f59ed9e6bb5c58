-- `override_text::patches::patch_by` meets its contract: each property by its reader.
use Rattle.event.specs.Overrides.{patch_in}
use Rattle.event.specs.Reading.{placed}
use Rattle.property.specs.Inner.Vocabulary.{vocabulary, word_of}
use Rattle.override_text.proofs.patches.patch_by.Goals as goal

pub returns : goal.returns
unfolding patch_in placed word_of vocabulary
returns c = λ l. rw (
  ← (c.start-when.ensures l),
  ← (c.length-lasting.ensures l),
  ← (c.busy-status.ensures l),
  ← (c.flag-allday.ensures l),
  ← (c.passage-title.ensures l),
  ← (c.passage-description.ensures l),
  ← (c.flag-excluded.ensures l),
)
