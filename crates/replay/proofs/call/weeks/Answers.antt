-- `replay::call::weeks` meets its contract: refused, or the places of the range's weeks and their tallies.
use mathlib.Core.Path.{◌≡◌, sym, ◌∙◌}
use native.Mathlib.Omega.{arith}
use lib.ListN.{length}
use lib.Seq.{length-take-le}
use Rattle.signed.proofs.Parts.{passed}
use Rattle.weeks.specs.Weeks.{weeks_in}
use Rattle.weeks.specs.Replay.{refusal}
use Rattle.weeks.specs.Inner.Marks.{up}
use Rattle.replay.specs.declared.refusals.Reason.{Reason}
use Rattle.replay.specs.declared.refusals.Reason.TheVariants.{LogOutOfOrder, NoRange, NoSheet, TooFewPlaces}
use Rattle.replay.specs.Inner.Numbers.{reason_number}
use Rattle.replay.proofs.RangeLaws.{both-passed}
use Rattle.replay.proofs.CallLaws.{refused-is, room, records, done-is}
use Rattle.replay.proofs.call.weeks.Goals as goal
use Rattle.replay.proofs.call.weeks.Goals.{In_default, After-weeks_in-n}

some : (r : Reason) → reason_number r ≡ 0 → ⊥
some LogOutOfOrder e = omega arith
some NoRange e = omega arith
some NoSheet e = omega arith
some TooFewPlaces e = omega arith

none : (c : In_default) → 0 ≡ refusal c.args.log.now c.args.sheet.now c.args.range_start c.args.range_end (length c.args.places.now)
none c = both-passed (λ from to. refusal c.args.log.now c.args.sheet.now from to (length c.args.places.now)) c.ranges.range_start c.ranges.range_end c.in_default.ensures

weeks : (c : After-weeks_in-n) → c.weeks_in-n.result ≡ weeks_in c.args.range_start c.args.range_end
weeks c = both-passed weeks_in c.ranges.range_start c.ranges.range_end c.weeks_in-n.ensures

pub returns-in-Some : goal.returns-in-Some
returns-in-Some c =
    let answer : reason_number c.in-Some.reason ≡ refusal c.args.log.now c.args.sheet.now c.args.range_start c.args.range_end (length c.args.places.now) =
    both-passed (λ from to. refusal c.args.log.now c.args.sheet.now from to (length c.args.places.now)) c.ranges.range_start c.ranges.range_end c.in-Some.ensures in
    refused-is _ _ _ _ _ _ (c.from.ensures ∙ answer) (λ e. some c.in-Some.reason (sym c.from.ensures ∙ e))

pub count-records-requires : goal.count-records-requires
count-records-requires c = omega (arith, records _ _ _ _ c.args.places.now (none (goal.at.count-records-requires c).In_default))

pub slice_bounds-sort-end : goal.slice_bounds-sort-end
slice_bounds-sort-end c = let at = goal.at.slice_bounds-sort-end c in room _ _ _ _ c.args.places.now (none at.In_default) _ (weeks at.After-weeks_in-n)

pub slice_bounds-sort-end-2 : goal.slice_bounds-sort-end-2
slice_bounds-sort-end-2 c = let at = goal.at.slice_bounds-sort-end-2 c in sym (length-take-le _ _ (room _ _ _ _ c.args.places.now (none at.In_default) _ (weeks at.After-weeks_in-n)))

pub sort-requires : goal.sort-requires
sort-requires c = omega (arith, c.count-records.ensures, records _ _ _ _ c.args.places.now (none (goal.at.sort-requires c).In_default))

pub returns : goal.returns
returns c =
    done-is _ _ _ _ c.args.places.now (none (goal.at.returns c).In_default) c.ranges.range_start _ _ _
    (weeks (goal.at.returns c).After-weeks_in-n) (passed (λ z. up z) c.ranges.range_start c.up-b.ensures) c.count-records.ensures
    _ _ _ _ c.sort.ensures
