-- `rule_text::entries::month_entries` meets its contract.
use Rattle.rule_text.proofs.EntryLaws.{Counting, Storing}
use Rattle.event.specs.Rules.{read_month}
use Rattle.event.specs.Reading.{entry}
use Rattle.json_tree.specs.Tree.{tree_at}
use Rattle.rule_text.specs.Inner.Reads.{entries_at}
use Rattle.rule_text.proofs.entries.month_entries.Given as goal

abbrev pub invariant-loop-count : goal.invariant-loop-count
invariant-loop-count l = Counting (entry read_month) (λ level v. tree_at level l.text v) l.text (λ level. entries_at (entry read_month) level l.text l.at) l.step l.count l.fault
    × Storing (λ m. m) (entry read_month) (λ level v. tree_at level l.text v) l.text (λ level. entries_at (entry read_month) level l.text l.at) l.initial.list l.list l.step l.count
