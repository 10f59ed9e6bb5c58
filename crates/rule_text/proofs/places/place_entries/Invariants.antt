-- `rule_text::places::place_entries` meets its contract.
use Rattle.std.specs.Prelude.{None}
use Rattle.rule_text.proofs.EntryLaws.{Counting, Storing}
use Rattle.rule_text.specs.Inner.Places.{read_place}
use Rattle.json_tree.specs.Tree.{tree_at}
use Rattle.rule_text.specs.Inner.Reads.{entries_at}
use Rattle.rule_text.proofs.places.place_entries.Given as goal

abbrev pub invariant-loop-count : goal.invariant-loop-count
invariant-loop-count l = Counting read_place (λ level v. tree_at level l.text v) l.text (λ level. entries_at read_place level l.text l.at) l.step l.count None
    × Storing (λ m. m) read_place (λ level v. tree_at level l.text v) l.text (λ level. entries_at read_place level l.text l.at) l.initial.list l.list l.step l.count
