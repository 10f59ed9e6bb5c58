-- Backslashes: none among the first bytes of a text; and a flag that is set only where the text has none.
use Rattle.std.specs.Prelude.{◌≡◌, ℕ, ◌<◌, Bool, true, List, length, ◌≢◌, slice_index}

unfoldable pub NoSlash : List ℕ → ℕ → Type 0
NoSlash s n = (k : ℕ) → k < n → slice_index s k ≢ 0x5C

unfoldable pub Clean : List ℕ → Bool → Type 0
Clean s clean = clean ≡ true → NoSlash s (length s)
