-- `track::skips::to_next` meets its contract. The invariant: no day between this one and the k-th after it is picked.
use Rattle.track.proofs.SkipLaws.{between-one, between_more, not-staying, month-few, month-reaches}
use Rattle.matcher.proofs.WalkLaws.{in-calendar}
use mathlib.Core.Path.{◌≡◌, subst}
use Rattle.track.specs.Inner.Skips.{Between}
use Rattle.matcher.specs.Inner.Walk.{picks_on_by}
use Rattle.track.proofs.PlainLaws.{month-some}
use native.Mathlib.Omega.{arith}
use mathlib.Core.Path.{sym, ◌∙◌}
use Rattle.track.proofs.skips.to_next.Goals as goal

pub loop-k-init : goal.loop-k-init
loop-k-init c = between-one _ _

pub in_month-y-requires : goal.in_month-y-requires
in_month-y-requires c = let a = c.requires in
    (a.day, month-reaches _ a.day a.high _ (omega (arith, c.to_month_end-end.ensures, c.loop-k-test.true)))

pub stays-requires : goal.stays-requires
stays-requires c = let a = c.requires in
    let reach = month-reaches _ a.day a.high c.loop-k.k (omega (arith, c.to_month_end-end.ensures, c.loop-k-test.true)) in
    (a.row_length, in-calendar _ _ c.in_month-y.ensures reach.0)

pub returns-then-stays : goal.returns-then-stays
returns-then-stays c = c.loop-k.invariant

pub loop-k-preserved : goal.loop-k-preserved
loop-k-preserved c = let a = c.requires in
    between_more _ _ _ c.loop-k.invariant
    (not-staying _ _ _ _ c.in_month-y.ensures (sym c.stays.ensures ∙ c.if-stays.false))
    (omega (arith, c.to_month_end-end.ensures, c.loop-k-test.true, month-few _ a.day a.high))

pub returns : goal.returns
returns c =
    let a = c.requires in
    let last : c.loop-k.k ≡ c.to_month_end-end.result = omega (arith, c.loop-k-test.false, c.loop-k.auto.k-end, c.to_month_end-end.ensures, month-some _ a.day a.high) in
    subst (Between (picks_on_by c.args.terms c.args.flags.now) c.args.x.number) last c.loop-k.invariant
