-- `smocurant_expand_entries` meets its contract: the numbers that are gathered give what the entries give.
use Rattle.std.proofs.Common.{arith}
use mir.Facts.{to_z-of_z}
use Rattle.entries.proofs.HeldLaws.{gathered-most, instants-held, offsets-held}
use Rattle.smocurant.proofs.EntryLaws.{of-entries}
use Rattle.smocurant.proofs.by_entries.smocurant_expand_entries.Goals as goal

pub with_numbers-requires : goal.with_numbers-requires
with_numbers-requires c =
    let g = c.gather-n.ensures in
    let most = gathered-most c.args.entries.now in
    (omega (arith, g.number, most, c.gather-n.auto.instants), omega (arith, g.number, most, c.gather-n.auto.offsets))

pub returns : goal.returns
returns c =
    let g = c.gather-n.ensures in
    let made = rw (to_z-of_z c.ranges.initial_offset, to_z-of_z c.ranges.window_start, to_z-of_z c.ranges.window_end) at c.with_numbers.ensures in
    of-entries c.args.entries.now _ _ (instants-held _ _ _ _ _ _ g (omega arith)) (offsets-held _ _ _ _ _ _ g (omega arith)) _ _ _ _ _ _ _ _ _ made
