-- `rule_text::days::day_entries` meets its contract.
use Rattle.rule_text.proofs.DayLaws.{Flagging}
use Rattle.rule_text.proofs.EntryLaws.{Counting, Storing}
use Rattle.rule_text.specs.Inner.Lists.{day_of, nth_of}
use Rattle.event.specs.Rules.{read_nday}
use Rattle.json_tree.specs.Tree.{tree_at}
use Prim.Native.Nat.{suc}
-- `rule_text::days::day_entries` meets its contract.
use Rattle.rule_text.specs.Inner.Reads.{entries_at}
use Rattle.rule_text.proofs.days.day_entries.Given as goal

abbrev pub invariant-loop-count : goal.invariant-loop-count
invariant-loop-count l = Counting read_nday (λ level v. tree_at (suc level) l.text v) l.text (λ level. entries_at read_nday (suc level) l.text l.at) l.step l.count l.fault
    × (Storing day_of read_nday (λ level v. tree_at (suc level) l.text v) l.text (λ level. entries_at read_nday (suc level) l.text l.at) l.initial.weekdays l.weekdays l.step l.count
    × (Storing nth_of read_nday (λ level v. tree_at (suc level) l.text v) l.text (λ level. entries_at read_nday (suc level) l.text l.at) l.initial.nths l.nths l.step l.count
    × Flagging (λ level v. tree_at (suc level) l.text v) l.text (λ level. entries_at read_nday (suc level) l.text l.at) l.step l.count l.nth))
