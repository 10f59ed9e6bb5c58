-- `matcher::walk::count_in` meets its contract. The invariant: what was found, and what the days left hold, make the whole.
use mathlib.Core.Path.{sym, ◌∙◌}
use native.Mathlib.Omega.{arith}
use Rattle.matcher.proofs.WalkLaws.{counting-yes, counting-no, counting-ends, in-calendar, stays_on}
use Rattle.matcher.proofs.walk.count_in.Goals as goal
use Rattle.matcher.proofs.walk.count_in.Goals.{then-stays, else-stays}

pub stays-requires : goal.stays-requires
stays-requires c = let i = c.loop.invariant in
    (c.requires.0, in-calendar _ _ i.day (omega (arith, i.fits)))

pub loop-preserved : goal.loop-preserved
loop-preserved c = let i = c.loop.invariant in
    elim c.if-stays.branch [
      | then-stays w ↦ rw w.found-is (counting-yes _ _ _ _ _ _ _ _ i (omega arith) c.next_day-x.ensures (stays_on _ _ _ _ i.day (sym c.stays.ensures ∙ w.if-stays.true)))
      | else-stays w ↦ rw w.found-is (counting-no _ _ _ _ _ _ _ _ i (omega arith) c.next_day-x.ensures (stays_on _ _ _ _ i.day (sym c.stays.ensures ∙ w.if-stays.false)))
    ]

pub returns : goal.returns
returns c = counting-ends _ _ _ _ _ _ c.loop.invariant (omega arith)
