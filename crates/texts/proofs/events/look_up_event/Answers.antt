-- `texts::events::look_up_event` meets its contract: what is loaded tells whether the date is an occurrence, and its text.
use mathlib.Core.Path.{sym, ap, ◌∙◌}
use lib.Seq.{length-take-le}
use borrow.Author.Tests.{not-true, not-false}
use Rattle.call_definitions.specs.Call.{place_of}
use Rattle.texts.specs.Inner.Shown.{shown_by}
use Rattle.texts.proofs.EventLaws.{even, occurs, place_same}
use Rattle.texts.proofs.PartLaws.{empty-placed, placed_same, visible-placed}
use Rattle.texts.proofs.events.look_up_event.Goals as goal

pub slice_bounds-is_id-end-2 : goal.slice_bounds-is_id-end-2
slice_bounds-is_id-end-2 c = sym (length-take-le _ _ c.load-kept.ensures.ids_fit)

pub slice_bounds-is_id-end-3 : goal.slice_bounds-is_id-end-3
slice_bounds-is_id-end-3 c = sym (length-take-le _ _ c.load-kept.ensures.gone_fit)

pub returns-then-not-is_id : goal.returns-then-not-is_id
unfolding shown_by
returns-then-not-is_id c = rw (sym (occurs _ _ _ _ c.requires _ _ _ _ _ c.load-kept.ensures) ∙ (sym c.is_id.ensures ∙ not-true c.is_id.result c.if-not-is_id.true-raw)) (empty-placed _ _)

pub slice_bounds-text_by-end : goal.slice_bounds-text_by-end
slice_bounds-text_by-end c = sym (length-take-le _ _ c.load-kept.ensures.ids_fit)

pub slice_bounds-text_by-end-2 : goal.slice_bounds-text_by-end-2
slice_bounds-text_by-end-2 c = sym (length-take-le _ _ c.load-kept.ensures.places_fit)

pub text_by-place-requires : goal.text_by-place-requires
text_by-place-requires c = (c.requires.taken.ends, even _ _ _ _ c.requires _ _ _ _ _ c.load-kept.ensures)

pub returns : goal.returns
unfolding shown_by
returns c = let l = c.load-kept.ensures in
    rw (sym (occurs _ _ _ _ c.requires _ _ _ _ _ l) ∙ (sym c.is_id.ensures ∙ not-false c.is_id.result c.if-not-is_id.false-raw))
    (visible-placed _ _ _ (placed_same _ _ _ (ap place_of c.text_by-place.ensures ∙ place_same _ _ _ _ c.requires _ _ _ _ _ l c.args.title) _ c.part_at.ensures) c.args.public _ c.visible.ensures)
