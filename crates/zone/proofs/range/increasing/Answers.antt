-- `zone::range::increasing` meets its contract: the library's test of neighbours tells whether the numbers increase.
use Rattle.std.proofs.Common.{rules}
use Rattle.std.proofs.lemmas.List.Sorted.{answers_always}
use lib.Signed.{lt_z}
use Rattle.zone.proofs.OrderLaws.{sorted-answer}
use Rattle.zone.proofs.range.increasing.Goals as goal

pub returns : goal.returns
returns c = sorted-answer _ _ (c.is_sorted_by.ensures.cases lt_z (answers_always _ _ _ (λ f a r f' k. search rules)))
