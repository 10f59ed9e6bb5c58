-- `rule_text::lists::day_list` meets its contract.
use mathlib.Core.Path.{refl}
use Rattle.fault.proofs.Laws.{fault-here}
use Rattle.rule_text.proofs.DayLaws.{days-same, days-limited, days-absent, days-wrong, weekdays-length, nths-length}
use Rattle.rule_text.proofs.ListLaws.{by_place, at-within}
use Rattle.property.specs.Inner.Vocabulary.{vocabulary, word_of}
use Rattle.json_text.specs.Ascii.{ascii}
use Rattle.rule_text.proofs.lists.day_list.Goals as goal

pub day_entries-days-requires : goal.day_entries-days-requires
day_entries-days-requires c = (at-within c.in-At.is c.list_in.ensures.within, c.requires.0)

pub shape_of-weekdays : goal.shape_of-weekdays
shape_of-weekdays c = weekdays-length c.day_entries-days.ensures

pub shape_of-nths : goal.shape_of-nths
shape_of-nths c = nths-length c.day_entries-days.ensures

pub returns-in-At : goal.returns-in-At
unfolding word_of vocabulary
returns-in-At c = days-same (days-limited _ _ c.day_entries-days.ensures c.list_fault.ensures) (λ l. rw (by_place _ _ _ _ (ascii "byDay"), ← c.list_in.ensures.is, c.in-At.is))

pub returns-in-Absent : goal.returns-in-Absent
unfolding word_of vocabulary
returns-in-Absent c = days-same days-absent (λ l. rw (by_place _ _ _ _ (ascii "byDay"), ← c.list_in.ensures.is, c.in-Absent.is))

pub returns-in-Wrong : goal.returns-in-Wrong
unfolding word_of vocabulary
returns-in-Wrong c = rw (c.fault_at.ensures, fault-here 20 _ refl) (days-same days-wrong (λ l. rw (by_place _ _ _ _ (ascii "byDay"), ← c.list_in.ensures.is, c.in-Wrong.is)))
