-- `window::next::next_hit` meets its contract.
use Rattle.std.proofs.Common.{arith, ◌∙◌}
use Rattle.window.proofs.NextLaws.{lower-min}
use Rattle.window.proofs.HitLaws.{day-low, day-high, hit-index, hit-lower}
use Rattle.window.proofs.next.next_hit.Goals as goal

pub overflow_sub-from : goal.overflow_sub-from
overflow_sub-from c = let a = c.args in
    omega (arith, day-low a.hits.now a.first a.start a.at a.to c.requires)

pub next_true-i-requires : goal.next_true-i-requires
next_true-i-requires c = let a = c.args in
    omega (arith, day-high a.hits.now a.first a.start a.at a.to c.requires)

pub overflow_add-from : goal.overflow_add-from
overflow_add-from c = let a = c.args in
    let most = hit-index a.hits.now a.first a.start a.at a.to c.requires _ _ _ c.day_from.ensures (omega arith) c.next_true-i.ensures in
    omega arith

pub overflow_mul-from : goal.overflow_mul-from
overflow_mul-from c = let a = c.args in
    let most = hit-index a.hits.now a.first a.start a.at a.to c.requires _ _ _ c.day_from.ensures (omega arith) c.next_true-i.ensures in
    omega arith

pub overflow_add-from-2 : goal.overflow_add-from-2
overflow_add-from-2 c = let a = c.args in
    let most = hit-index a.hits.now a.first a.start a.at a.to c.requires _ _ _ c.day_from.ensures (omega arith) c.next_true-i.ensures in
    omega arith

pub returns : goal.returns
returns c = let a = c.args in
    c.min.ensures ∙ (lower-min _ _ ∙ rw c.from-2.ensures (hit-lower a.hits.now a.first a.start a.at a.to c.requires _ _ _ c.day_from.ensures (omega arith) c.next_true-i.ensures))
