-- `signed::place` meets its contract: each return is a case of the definition by the parts of the number.
use Rattle.std.proofs.Common.{◌∙◌, arith}
use Rattle.signed.specs.Parts.{pos_part, neg_part}
use Rattle.signed.proofs.Parts.{passed}
use Rattle.signed.proofs.PlaceLaws.{place-back, place_after, place-on}
use Rattle.signed.proofs.place.Goals as goal

pub returns-then-back-gt0 : goal.returns-then-back-gt0
returns-then-back-gt0 c = let b = passed neg_part c.ranges.z c.negative_part-back.ensures in
    c.saturating_sub.ensures ∙ rw b (place-back _ _ (omega (arith, b)))

pub returns-then-on-n : goal.returns-then-on-n
returns-then-on-n c = let b = passed neg_part c.ranges.z c.negative_part-back.ensures in
    let a = passed pos_part c.ranges.z c.positive_part-on.ensures in
    a ∙ place-on _ _ (omega (arith, b)) (omega (arith, a))

pub returns-else-on-n : goal.returns-else-on-n
returns-else-on-n c = let b = passed neg_part c.ranges.z c.negative_part-back.ensures in
    let a = passed pos_part c.ranges.z c.positive_part-on.ensures in
    place_after _ _ (omega (arith, b)) (omega (arith, a))
