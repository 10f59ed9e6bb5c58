-- `rule_text::entries::signed_entries` meets its contract.
use Rattle.rule_text.proofs.EntryLaws.{Counting, Storing}
use Rattle.event.specs.Reading.{entry}
use Rattle.event.specs.Rules.{read_signed}
use Rattle.json_tree.specs.Tree.{tree_at}
use Rattle.rule_text.specs.Inner.Reads.{entries_at}
use Rattle.rule_text.proofs.entries.signed_entries.Given as goal

abbrev pub invariant-loop-count : goal.invariant-loop-count
invariant-loop-count l = Counting (entry (read_signed l.most)) (λ level v. tree_at level l.text v) l.text (λ level. entries_at (entry (read_signed l.most)) level l.text l.at) l.step l.count l.fault
    × Storing (λ z. z) (entry (read_signed l.most)) (λ level v. tree_at level l.text v) l.text (λ level. entries_at (entry (read_signed l.most)) level l.text l.at) l.initial.list l.list l.step l.count
