-- `source::listed::list_window` meets its contract.
use Rattle.source.proofs.ListedLaws.{only_row, first-day, last-day, window-asks, window-listed}
use mathlib.Core.Path.{sym}
use native.Mathlib.Omega.{arith}
use Rattle.source.proofs.listed.list_window.Goals as goal

pub slice_bounds-list_chunk-end : goal.slice_bounds-list_chunk-end
slice_bounds-list_chunk-end c = sym (only_row _ c.args.rows.now c.requires.0.whole)

pub overflow_cast-first : goal.overflow_cast-first
overflow_cast-first c = omega (arith, c.day_from-first.ensures, first-day _ _ _ _ _ c.requires.0)

pub overflow_cast-end : goal.overflow_cast-end
overflow_cast-end c = omega (arith, c.day_from-end.ensures, last-day _ _ _ _ _ c.requires.0)

pub list_chunk-requires : goal.list_chunk-requires
list_chunk-requires c = let p = c.requires in
    rw (c.day_from-first.ensures, c.day_from-end.ensures) (window-asks _ _ _ _ _ p.0 _ p.1)

pub returns : goal.returns
returns c = window-listed _ _ _ _ _ c.requires.0 _ _ _ _ _ (rw (c.day_from-first.ensures, c.day_from-end.ensures) at c.list_chunk.ensures)
