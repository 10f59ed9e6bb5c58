-- `track::ahead::count_month` meets its contract. The invariant: what was found, and what the days left hold, make the whole.
use Rattle.track.proofs.AheadLaws.{count-starts, count_yes, count_no, count-ends}
use Rattle.track.proofs.PlainLaws.{month-asked}
use Rattle.track.proofs.SkipLaws.{month-reaches}
use Rattle.matcher.specs.Inner.Member.{falls_on_by}
use Rattle.matcher.proofs.WalkLaws.{number_is}
use native.Mathlib.Omega.{arith}
use mathlib.Core.Path.{sym, ap, ◌∙◌}
use Rattle.track.proofs.ahead.count_month.Goals as goal
use Rattle.track.proofs.ahead.count_month.Goals.{then-falls_plain, else-falls_plain}

pub loop-k-init : goal.loop-k-init
loop-k-init c = count-starts _ _ _

pub in_month-y-requires : goal.in_month-y-requires
in_month-y-requires c = let p = c.requires.1.0 in
    (p.0.day, month-reaches _ p.0.day p.0.high _ (omega (arith, c.loop-k-test.true, p.1.within)))

pub falls_plain-requires : goal.falls_plain-requires
falls_plain-requires c = let p = c.requires in
    (p.0, (month-asked _ _ _ _ _ p.1.0.0 c.in_month-y.ensures (omega (arith, c.loop-k-test.true, p.1.0.1.known)), p.1.1))

pub overflow_add-found : goal.overflow_add-found
overflow_add-found c = omega (arith, c.loop-k.invariant.few, c.loop-k-test.true, c.requires.1.0.1.known)

pub loop-k-preserved : goal.loop-k-preserved
loop-k-preserved c = let a = c.args in
    let on = ap (falls_on_by a.excluded a.end a.terms a.flags.now a.start) (sym (number_is _ _ c.in_month-y.ensures)) in
    elim c.if-falls_plain.branch [
      | then-falls_plain w ↦ rw w.found-is (count_yes _ _ _ _ _ c.loop-k.invariant c.loop-k-test.true (on ∙ (sym c.falls_plain.ensures ∙ w.if-falls_plain.true)))
      | else-falls_plain w ↦ rw w.found-is (count_no _ _ _ _ _ c.loop-k.invariant c.loop-k-test.true (on ∙ (sym c.falls_plain.ensures ∙ w.if-falls_plain.false)))
    ]

pub returns : goal.returns
returns c = count-ends _ _ _ _ _ c.loop-k.invariant c.loop-k-test.false
