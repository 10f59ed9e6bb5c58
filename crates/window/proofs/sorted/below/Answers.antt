-- `window::sorted::below` meets its contract: the ids that are less come first.
use Rattle.std.proofs.Common.{ltb, rules}
use Rattle.std.proofs.lemmas.List.Sorted.{IsPartitionPoint-from_clause}
use Rattle.window.proofs.SortedLaws.{ids-part, below-made}
use Rattle.window.proofs.sorted.below.Goals as goal

pub returns : goal.returns
returns c =
    let a = c.args in
    let parts = ids-part a.ids.now a.x c.requires in
    below-made _ _ _ c.partition_point.ensures.bound (IsPartitionPoint-from_clause (λ i. ltb i a.x) _ _ c.partition_point.ensures.partitioned parts (λ i r f k. search rules))
