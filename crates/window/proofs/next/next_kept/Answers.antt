-- `window::next::next_kept` meets its contract.
use Rattle.window.proofs.next.next_kept.Goals as goal

pub next_sorted-requires : goal.next_sorted-requires
next_sorted-requires c = (c.requires.0 c.if-sorted.true, c.requires.1)
