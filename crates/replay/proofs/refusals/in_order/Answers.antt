-- `replay::refusals::in_order` meets its contract: each instant and the next are in order.
use native.Mathlib.Omega.{arith}
use lib.Signed.{le_z}
use lib.Seq.{take_all}
use Rattle.std.proofs.Common.{rules}
use Rattle.std.proofs.lemmas.List.Sorted.{answers_always}
use Rattle.replay.proofs.OrderLaws.{ordered-is}
use Rattle.replay.proofs.refusals.in_order.Goals as goal

pub returns : goal.returns
returns c =
    let e = ordered-is _ _ (c.is_sorted_by.ensures.cases le_z (answers_always _ _ _ (λ f a r f' k. search rules))) in
    grind (arith, e, take_all)
