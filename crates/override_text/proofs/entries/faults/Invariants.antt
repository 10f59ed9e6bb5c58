-- `override_text::entries::faults` meets its contract: what was found and what is left make the whole.
use Rattle.override_text.specs.Inner.Meaning.{details_in}
use Rattle.override_text.proofs.EntryLaws.{Walk}
use Rattle.override_text.proofs.entries.faults.Given as goal

abbrev pub invariant-loop-count : goal.invariant-loop-count
invariant-loop-count l = Walk (details_in l.text l.own) l.text l.at l.found l.next l.count
