-- `window::next::none_in` meets its contract.
use Rattle.std.proofs.Common.{◌≡◌, ◌+◌, ◌-◌, ◌∙◌, false, drop, arith}
use Rattle.std.proofs.lemmas.List.{get_or-take, get_or-drop}
use Rattle.window.proofs.FirstLaws.{none-goes-on, none-ends}
use Rattle.window.proofs.next.none_in.Goals as goal

pub loop-hit-preserved : goal.loop-hit-preserved
loop-hit-preserved c =
    let a = c.args in
    let i = c.loop-hit.hit-index in
    let next : a.low + (i + 1) ≡ a.low + i + 1 = omega arith in
    let more = c.loop-hit-test.true in
    rw next
    (none-goes-on _ _ _ _ _ c.loop-hit.invariant (omega arith) _ (get_or-take (a.high - a.low) (drop a.low a.hits.now) i false (omega arith) ∙ get_or-drop a.low a.hits.now i false))

pub returns : goal.returns
returns c = none-ends _ _ _ _ _ c.loop-hit.invariant (omega arith)
