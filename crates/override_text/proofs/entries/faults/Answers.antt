-- `override_text::entries::faults` meets its contract: what was found and what is left make the whole.
use Rattle.override_text.proofs.EntryLaws.{walk_start, walk-next, walk_end, walk-out}
use Rattle.override_text.proofs.entries.faults.Goals as goal

pub loop-count-init : goal.loop-count-init
loop-count-init c = walk_start _ _ _ _ c.first-next.ensures

pub returns-in_default : goal.returns-in_default
returns-in_default c = walk_end _ _ _ _ _ _ c.loop-count.invariant c.in_default.is _ c.limited.ensures

pub loop-count-preserved : goal.loop-count-preserved
loop-count-preserved c = walk-next _ _ _ _ _ _
    c.loop-count.invariant
    c.loop-count-test.true _
    c.in-Some.is _
    c.entry_fault.ensures _ c.lower-found.ensures _ c.next_member-next.ensures

pub returns : goal.returns
returns c = walk-out _ _ _ _ _ _ c.loop-count.invariant c.loop-count-test.false _ c.limited-2.ensures
