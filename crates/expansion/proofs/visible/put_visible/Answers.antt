-- `expansion::visible::put_visible` meets its contract: what is loaded stands for the event, so what is put is its table.
use mathlib.Core.Path.{refl, sym}
use native.Mathlib.Omega.{arith}
use lib.Seq.{length-take-le}
use Rattle.expansion.proofs.VisibleLaws.{within, table-needs, table-put}
use Rattle.expansion.proofs.visible.put_visible.Goals as goal

pub load-kept-requires : goal.load-kept-requires
load-kept-requires c = record {
  taken = c.requires.taken;
  within = within _ _ _ _ _ _ _ _ c.requires _ c.limit_of.ensures;
  row_room = refl;
  ids_room = omega arith;
  gone_room = omega arith;
  places_room = omega arith;
}

pub slice_bounds-put_table-end-2 : goal.slice_bounds-put_table-end-2
slice_bounds-put_table-end-2 c = sym (length-take-le _ _ c.load-kept.ensures.ids_fit)

pub slice_bounds-put_table-end-3 : goal.slice_bounds-put_table-end-3
slice_bounds-put_table-end-3 c = sym (length-take-le _ _ c.load-kept.ensures.gone_fit)

pub slice_bounds-put_table-end-4 : goal.slice_bounds-put_table-end-4
slice_bounds-put_table-end-4 c = sym (length-take-le _ _ c.load-kept.ensures.places_fit)

pub put_table-requires : goal.put_table-requires
put_table-requires c = table-needs _ _ _ _ _ _ _ _ c.requires _ c.limit_of.ensures c.ranges.initial _ _ _ _ _ c.load-kept.ensures

pub returns : goal.returns
returns c = table-put _ _ _ _ _ _ _ _ c.requires _ c.limit_of.ensures c.ranges.initial _ _ _ _ _ c.load-kept.ensures _ _ _ _ c.put_table.ensures
