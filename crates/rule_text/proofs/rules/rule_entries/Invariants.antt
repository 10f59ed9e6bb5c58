-- `rule_text::rules::rule_entries` meets its contract.
use Rattle.rule_text.proofs.EntryLaws.{Counting}
use Rattle.event.specs.Rules.{read_rule}
use Rattle.json_tree.specs.Tree.{tree_at}
use Prim.Native.Nat.{suc}
-- `rule_text::rules::rule_entries` meets its contract.
use Rattle.rule_text.specs.Inner.Reads.{entries_at}
use Rattle.rule_text.proofs.rules.rule_entries.Given as goal

abbrev pub invariant-loop-count : goal.invariant-loop-count
invariant-loop-count l = Counting read_rule (λ level v. tree_at (suc (suc (suc level))) l.text v) l.text (λ level. entries_at read_rule (suc (suc (suc level))) l.text l.at) l.step l.count l.fault
