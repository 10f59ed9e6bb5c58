-- `window::sorted::rises` meets its contract.
use Rattle.std.proofs.Common.{ltb, rules}
use Rattle.std.proofs.lemmas.Fn.{always_returns_same}
use Rattle.window.proofs.SortedLaws.{rises-answer}
use Rattle.window.proofs.sorted.rises.Goals as goal

pub returns : goal.returns
returns c = rises-answer _ _ (c.is_sorted_by.ensures.cases ltb (always_returns_same _ _ _ (λ a r f k. search rules)))
