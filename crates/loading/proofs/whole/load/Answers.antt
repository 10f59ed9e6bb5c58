-- `loading::whole::load` meets its contract: what its calls say is joined by LoadLaws.
use mathlib.Core.Path.{◌≡◌, sym, ◌∙◌}
use lib.ListN.{length}
use Rattle.matcher.specs.Inner.Layout.{list_size}
use Rattle.loading.proofs.LoadLaws.{first-size, second-size, both-back, rules-need, excluded-need, ids_fit, ids-taken, event-kept}
use Rattle.loading.proofs.whole.load.Goals as goal

pub slice_bounds-load_list-end-2 : goal.slice_bounds-load_list-end-2
slice_bounds-load_list-end-2 c = sym (first-size c.args.rows.now c.requires.row_room)

pub load_list-rules-requires : goal.load_list-rules-requires
load_list-rules-requires c = let n = rules-need _ _ c.args.head _ _ _ _ _ c.requires in
    record { fine = n.0; season = n.1; room = first-size c.args.rows.now c.requires.row_room; ends = c.requires.taken.ends }

pub load_list-excluded-requires : goal.load_list-excluded-requires
load_list-excluded-requires c =
    let first-half : length c.load_list-rules.new.flags ≡ list_size = c.load_list-rules.auto.flags ∙ first-size c.args.rows.now c.requires.row_room in
    let n = excluded-need _ _ c.args.head _ _ _ _ _ c.requires in
    record { fine = n.0; season = n.1; room = second-size c.args.rows.now c.load_list-rules.new.flags c.requires.row_room first-half; ends = c.requires.taken.ends }

pub load_overrides-count-requires : goal.load_overrides-count-requires
load_overrides-count-requires c = let p = c.requires in
    record { ends = p.taken.ends; ids_room = p.ids_room; gone_room = p.gone_room; places_room = p.places_room }

pub slice_bounds-rises-end : goal.slice_bounds-rises-end
slice_bounds-rises-end c = let o = c.own_of-own in
    ids_fit _ _ c.args.head _ _ _ _ _ c.requires o.result o.ensures _ _ _ _ c.load_overrides-count.ensures

pub slice_bounds-rises-end-2 : goal.slice_bounds-rises-end-2
slice_bounds-rises-end-2 c = let o = c.own_of-own in
    ids-taken _ _ c.args.head _ _ _ _ _ c.requires o.result o.ensures _ _ _ _ c.load_overrides-count.ensures

pub returns : goal.returns
returns c =
    let first-half : length c.load_list-rules.new.flags ≡ list_size = c.load_list-rules.auto.flags ∙ first-size c.args.rows.now c.requires.row_room in
    let o = c.own_of-own in
    let kept = c.load_list-rules in
    let left = c.load_list-excluded in
    let half = first-half in
    event-kept _ _ c.args.head _ _ _ _ _ c.requires o.result o.ensures _ _ _ _ c.load_overrides-count.ensures _ _ _ _ _
    (half, left.auto.flags ∙ second-size c.args.rows.now kept.new.flags c.requires.row_room half) (both-back c.args.rows.now kept.new.flags c.requires.row_room half left.new.flags) kept.ensures left.ensures _ _
    c.is_floating-floating.ensures c.rises-sorted.ensures.0
