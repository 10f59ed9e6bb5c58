-- `event_text::whole::lists_fault` meets its contract.
use Rattle.fault.proofs.Laws.{first-all}
use Rattle.event_text.specs.Inner.Front.{lists_faults}
use Rattle.event_text.proofs.whole.lists_fault.Goals as goal

pub returns : goal.returns
unfolding lists_faults
returns c = rw (first-all, ← c.rules_at-kept.ensures, ← c.rules_at-left.ensures, ← c.overrides_at-patched.ensures, ← c.lower.ensures) c.lower-2.ensures
