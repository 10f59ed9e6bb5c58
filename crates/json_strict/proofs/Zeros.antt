-- A table of zeros says nothing, however the 0 is written.
use Prim.Native.Nat.{ℕ}
use mathlib.Core.List.{List}
use mathlib.Core.Path.{◌≡◌}
use lib.ListN.{replicate}
use Rattle.json_ends.specs.Inner.Ends.{Ends}
use Rattle.json_ends.proofs.Laws.{ends-none}

pub ends_none : (s : List ℕ) (n e : ℕ) → e ≡ 0 → Ends s (replicate n e)
ends_none s n e h = rw h (ends-none s n)
