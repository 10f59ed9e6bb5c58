-- `zone::mark::at` meets its contract: both offsets are within ±86,399 and the instant within ±2^40, so the sum fits.
use Rattle.std.proofs.Common.{◌≡◌, ◌∙◌, ◌∷◌, ◌≤◌, ◌^◌, ap, arith, get_or, ℤ, pos, ◌+ℤ◌, w64, rules}
use lib.IntN.{nat_abs}
use mir.Val.{SFits}
use Rattle.zone.specs.Table.{larger, mark}
use Rattle.zone.specs.Places.{mark_at}
use Rattle.zone.proofs.RangeLaws.{range_at}
use Rattle.zone.proofs.TableLaws.{larger-abs, before-abs}
use Rattle.zone.proofs.Machine.{sum_fits, sum_is, larger-is}
use Rattle.zone.proofs.mark.at.Goals as goal

-- what is added is the larger of the offsets before and after
module _ (c : goal.After-larger) where
  abbrev after : ℤ
  after = get_or c.args.offsets.now c.args.i (pos 0)

  abbrev instant : ℤ
  instant = get_or c.args.instants.now c.args.i (pos 0)

  after-fits : SFits w64 after
  after-fits = search rules

  instant-fits : SFits w64 instant
  instant-fits = search rules

  added : c.larger.result ≡ larger (get_or (c.args.initial ∷ c.args.offsets.now) c.args.i (pos 0)) after
  added =
      larger-is _ c.args.offsets.now c.args.i c.ranges.initial after-fits
      c.before-2.result c.larger.result c.before-2.type_inv c.before-2.ensures c.larger.ensures

  instant-small : nat_abs instant ≤ 2 ^ 62
  instant-small = omega (arith, range_at (2 ^ 40) c.args.instants.now c.requires.in_range.instants_in c.args.i)

  added-small : nat_abs c.larger.result ≤ 86399
  added-small =
      rw added
      (larger-abs 86399 _ _
      (before-abs _ c.args.offsets.now c.args.i c.requires.in_range.initial_in c.requires.in_range.offsets_in)
      (range_at 86399 c.args.offsets.now c.requires.in_range.offsets_in c.args.i))

pub overflow_add-result : goal.overflow_add-result
overflow_add-result c = sum_fits (instant c) c.larger.result (instant-fits c) (record { sfits = c.larger.type_inv }) (instant-small c) (added-small c)

pub returns : goal.returns
unfolding mark mark_at
returns c = sum_is (instant c) c.larger.result (instant-fits c) (record { sfits = c.larger.type_inv }) (instant-small c) (added-small c)
    ∙ ap (λ (z : ℤ). instant c +ℤ z) (added c)
