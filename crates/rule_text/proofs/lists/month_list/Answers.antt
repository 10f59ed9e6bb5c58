-- `rule_text::lists::month_list` meets its contract.
use mathlib.Core.Path.{refl}
use Rattle.fault.proofs.Laws.{fault-here}
use Rattle.rule_text.proofs.ListLaws.{by_place, at-within, entries-same, entries-limited, entries-absent, entries-wrong, entries-length}
use Rattle.property.specs.Inner.Vocabulary.{vocabulary, word_of}
use Rattle.json_text.specs.Ascii.{ascii}
use Rattle.rule_text.proofs.lists.month_list.Goals as goal

pub month_entries-months-requires : goal.month_entries-months-requires
month_entries-months-requires c = (at-within c.in-At.is c.list_in.ensures.within, c.requires.0)

pub shape_of-list : goal.shape_of-list
shape_of-list c = entries-length c.month_entries-months.ensures

pub returns-in-At : goal.returns-in-At
unfolding word_of vocabulary
returns-in-At c = entries-same (entries-limited _ _ _ c.month_entries-months.ensures c.list_fault.ensures) (λ l. rw (by_place _ _ _ _ (ascii "byMonth"), ← c.list_in.ensures.is, c.in-At.is))

pub returns-in-Absent : goal.returns-in-Absent
unfolding word_of vocabulary
returns-in-Absent c = entries-same entries-absent (λ l. rw (by_place _ _ _ _ (ascii "byMonth"), ← c.list_in.ensures.is, c.in-Absent.is))

pub returns-in-Wrong : goal.returns-in-Wrong
unfolding word_of vocabulary
returns-in-Wrong c = rw (c.fault_at.ensures, fault-here 20 _ refl) (entries-same entries-wrong (λ l. rw (by_place _ _ _ _ (ascii "byMonth"), ← c.list_in.ensures.is, c.in-Wrong.is)))
