-- The blocks of a run, one after the other: the first i elements of each slice have their numbers.
use Prim.Native.Nat.{ℕ, ◌+◌, ◌≤◌}
use mathlib.Core.List.{List}
use lib.IntN.{ℤ}
use Rattle.sheet.specs.Records.{id_at, start_at, end_at, marks_at}
use Rattle.fetch.specs.Inner.Filling.{Filled, BlockFilled}
use Rattle.fetch.proofs.PartLaws.{block-next}

pub block-filled : (s : List ℕ) (k i e : ℕ) (ids₀ starts₀ ends₀ : List ℤ) (marks₀ : List ℕ) (ids starts ends : List ℤ) (marks : List ℕ) (ids' starts' ends' : List ℤ) (marks' : List ℕ)
    → i ≤ e → Filled s k i ids₀ starts₀ ends₀ marks₀ ids starts ends marks → BlockFilled s (k + i) i e ids starts ends marks ids' starts' ends' marks'
    → Filled s k e ids₀ starts₀ ends₀ marks₀ ids' starts' ends' marks'
block-filled s k i e ids₀ starts₀ ends₀ marks₀ ids starts ends marks ids' starts' ends' marks' h f b =
    record {
      ids_are = block-next (id_at s) k i e ids₀ ids ids' h f.ids_are b.ids_are;
      starts_are = block-next (start_at s) k i e starts₀ starts starts' h f.starts_are b.starts_are;
      ends_are = block-next (end_at s) k i e ends₀ ends ends' h f.ends_are b.ends_are;
      marks_are = block-next (marks_at s) k i e marks₀ marks marks' h f.marks_are b.marks_are;
    }
