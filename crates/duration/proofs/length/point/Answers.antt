-- `duration::length::point` meets its contract: the first point from i on is the first of all.
use Prim.Native.Nat.{◌-◌}
use mathlib.Core.Path.{refl, sym, ◌∙◌}
use Rattle.duration.specs.Length.{point_at}
use Rattle.duration.proofs.Laws.{point-more, point-stop, point-end}
use Rattle.duration.proofs.length.point.Goals as goal

pub loop-i-init : goal.loop-i-init
unfolding point_at
loop-i-init c = refl

pub returns-then-byte-eq46 : goal.returns-then-byte-eq46
returns-then-byte-eq46 c = sym (point-stop _ _ (sym c.byte.ensures.is ∙ c.if-byte-eq46.true)) ∙ c.loop-i.invariant

pub loop-i-preserved : goal.loop-i-preserved
loop-i-preserved c = point-more _ _ c.loop-i-test.true (λ e. c.if-byte-eq46.false (c.byte.ensures.is ∙ e))
    ∙ c.loop-i.invariant

pub returns : goal.returns
returns c = sym (point-end _ _ c.loop-i-test.false) ∙ c.loop-i.invariant
