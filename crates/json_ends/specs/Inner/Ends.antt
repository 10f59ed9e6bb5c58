-- A table of ends: for a place of a text nothing, where its entry is below 32, or where the value there ends and how many
-- levels it was read with, in one number: the end times 32, and the levels.
use Rattle.std.specs.Prelude.{ℕ, ◌/◌, ◌%◌, ◌≤◌, List, ◌≡◌, get_or, Ok}
use Rattle.json_value.specs.Values.{value_at}

unfoldable pub Ends : List ℕ → List ℕ → Type 0
Ends s t = (i : ℕ) → 32 ≤ get_or t i 0 → value_at (get_or t i 0 % 32) s i ≡ Ok (get_or t i 0 / 32)
