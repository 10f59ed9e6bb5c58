-- `source::listed::list_ids` meets its contract.
use Rattle.source.proofs.ListedLaws.{listed-few, listed-ids, listed-part}
use native.Mathlib.Omega.{arith}
use Rattle.source.proofs.listed.list_ids.Goals as goal

pub slice_bounds-write_seconds-end : goal.slice_bounds-write_seconds-end
slice_bounds-write_seconds-end c = listed-few _ _ _ _ _ c.requires.0 _ _ _ _ c.list_window-count.ensures

pub slice_bounds-write_seconds-end-2 : goal.slice_bounds-write_seconds-end-2
slice_bounds-write_seconds-end-2 c = listed-part _ _ _ _ _ c.requires.0 _ _ _ _ c.list_window-count.ensures

pub write_seconds-requires : goal.write_seconds-requires
write_seconds-requires c = omega (arith, listed-part _ _ _ _ _ c.requires.0 _ _ _ _ c.list_window-count.ensures, listed-few _ _ _ _ _ c.requires.0 _ _ _ _ c.list_window-count.ensures, c.list_window-count.ensures.size, c.requires.1.1)

pub returns : goal.returns
returns c = let p = c.requires in
    rw c.goes_on.ensures (listed-ids _ _ _ _ _ p.0 _ _ _ _ c.list_window-count.ensures p.0.room _ _ p.1.1 c.write_seconds.ensures)
