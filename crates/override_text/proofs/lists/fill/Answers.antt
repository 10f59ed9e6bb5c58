-- `override_text::lists::fill` meets its contract: what is left to be stored makes of the slices what all would have made of them.
use native.Mathlib.Omega.{arith}
use Rattle.override_text.proofs.ListLaws.{filling-start, filling-next, filled-end, filled-out}
use Rattle.override_text.proofs.lists.fill.Goals as goal

pub loop-k-init : goal.loop-k-init
loop-k-init c = filling-start _ _ _ _ _ _ c.first-next.ensures

pub returns-in_default : goal.returns-in_default
returns-in_default c = filled-end _ _ _ _ _ _ _ _ _ _ c.loop-k.invariant c.in_default.is

pub loop-k-preserved : goal.loop-k-preserved
loop-k-preserved c = filling-next _ _ _ _ _ _ _ _ _ _
    c.loop-k.invariant
    (omega arith) (omega arith) _
    c.in-Some.is _
    c.date.ensures _ c.is_excluded.ensures _ c.next_member-next.ensures

pub returns : goal.returns
returns c = filled-out _ _ _ _ _ _ _ _ _ _ c.loop-k.invariant _ c.min-most.ensures c.loop-k.auto.k-end c.loop-k-test.false
