-- `track::plain::mark_each` meets its contract. The invariant: what is marked, and what is left to mark, make the whole.
use Rattle.track.proofs.PlainLaws.{month-asked}
use Rattle.track.proofs.RunLaws.{mark-starts, mark-yes, mark-no, mark-ends}
use Rattle.track.proofs.SkipLaws.{month-reaches}
use Rattle.matcher.proofs.WalkLaws.{number_is}
use Rattle.matcher.specs.Inner.Walk.{picks_on_by}
use Prim.Native.Nat.{◌<◌}
use lib.ListN.{length}
use lib.Seq.{set-get_or}
use mathlib.Core.Bool.{false}
use mathlib.Core.Path.{sym, ap, ◌∙◌}
use native.Mathlib.Omega.{arith}
use Rattle.track.proofs.plain.mark_each.Goals as goal
use Rattle.track.proofs.plain.mark_each.Goals.{then-picked, else-picked}

pub loop-k-init : goal.loop-k-init
loop-k-init c = mark-starts _ _ _ _

pub in_month-y-requires : goal.in_month-y-requires
in_month-y-requires c = let i = c.loop-k.invariant in
    let p = c.requires.1 in
    (p.0.day, month-reaches _ p.0.day p.0.high _ (omega (arith, i.size, c.loop-k-test.true, p.1.within)))

pub picks_plain-picked-requires : goal.picks_plain-picked-requires
picks_plain-picked-requires c = let i = c.loop-k.invariant in
    let p = c.requires in
    (p.0, month-asked _ _ _ _ _ p.1.0 c.in_month-y.ensures (omega (arith, i.size, c.loop-k-test.true, p.1.1.known)))

pub loop-k-preserved : goal.loop-k-preserved
loop-k-preserved c = let m = c.loop-k.invariant in
    let more : c.loop-k.k < length c.loop-k.hits = omega (arith, c.loop-k-test.true, m.size) in
    let on = ap (picks_on_by c.args.terms c.args.flags.now) (sym (number_is _ _ c.in_month-y.ensures)) ∙ sym c.picks_plain-picked.ensures in
    elim c.if-picked.branch [
      | then-picked w ↦ rw w.hits-is (mark-yes _ _ _ _ _ _ m more (on ∙ w.if-picked.true))
      | else-picked w ↦ rw (w.hits-is, set-get_or c.loop-k.hits c.loop-k.k false) (mark-no _ _ _ _ _ _ m more (on ∙ w.if-picked.false))
    ]

pub returns : goal.returns
returns c = mark-ends _ _ _ _ _ _ c.loop-k.invariant (omega (arith, c.loop-k-test.false, c.loop-k.invariant.size))
