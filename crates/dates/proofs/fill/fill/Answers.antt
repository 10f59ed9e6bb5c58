-- `dates::fill::fill` meets its contract: the rows of the excluded rules are all those after the rules' own.
use Prim.Native.Nat.{◌-◌}
use mathlib.Core.Bool.{Bool}
use mathlib.Core.List.{List}
use mathlib.Core.Path.{◌≡◌, sym, subst, ◌∙◌, ap}
use native.Mathlib.Omega.{arith}
use lib.ListN.{length, take, drop, length-drop}
use lib.Seq.{length-take-le, take_all}
use Rattle.matcher.specs.Inner.Layout.{list_size, lists_size}
use Rattle.track.specs.Inner.Settle.{cleared}
use Rattle.dates.specs.Inner.Tracked.{Tracked}
use Rattle.dates.specs.Inner.Dates.{kept_dates}
use Rattle.dates.proofs.FillLaws.{filled}
use borrow.Author.Rules.{rules}
use Rattle.dates.proofs.fill.fill.Goals as goal

-- the two halves of the rows
module _ (rows : List Bool) (size : length rows ≡ lists_size) where
  front-size : list_size ≡ length (take list_size rows)
  front-size = sym (length-take-le list_size rows (omega arith))

  rest-is : take (length rows - list_size) (drop list_size rows) ≡ drop list_size rows
  rest-is = take_all (length rows - list_size) (drop list_size rows) (omega (arith, length-drop list_size rows))

  rest-size : list_size ≡ length (take (length rows - list_size) (drop list_size rows))
  rest-size = sym (ap length rest-is ∙ omega (arith, length-drop list_size rows))

pub slice_bounds-mark_tracks-end : goal.slice_bounds-mark_tracks-end
slice_bounds-mark_tracks-end c = front-size c.args.rows.now c.requires.0.size

pub mark_tracks-requires : goal.mark_tracks-requires
mark_tracks-requires c = (subst (Tracked c.args.dates.rules) (front-size c.args.rows.now c.requires.0.size) c.requires.0.rules_tracked, search rules)

pub mark_tracks-requires-2 : goal.mark_tracks-requires-2
mark_tracks-requires-2 c = (subst (Tracked c.args.dates.excluded) (rest-size c.args.rows.now c.requires.0.size) c.requires.0.excluded_tracked, search rules)

pub mark_ids-requires-2 : goal.mark_ids-requires-2
mark_ids-requires-2 c = c.requires.0.overrides

pub returns : goal.returns
unfolding cleared
returns c = filled (kept_dates c.args.dates c.args.rows.now c.args.ids.now c.args.gone.now) _ _ _ _ _ _ _ _
    (c.fill.ensures.after (λ y same. same)) c.mark_tracks.ensures c.mark_date.ensures
    (rw (rest-is c.args.rows.now c.requires.0.size) at c.mark_tracks-2.ensures) c.mark_ids.ensures c.mark_ids-2.ensures
