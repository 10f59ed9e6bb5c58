-- `override_text::entries::entry_fault` meets its contract.
use Rattle.override_text.proofs.EntryLaws.{entry-joined}
use Rattle.override_text.proofs.entries.entry_fault.Goals as goal

pub returns : goal.returns
returns c = λ l. entry-joined _ _ _ _ l _ _ _ _ c.date-id.ensures (c.patch_fault-rest.ensures l) c.fault_at.ensures c.lower.ensures
