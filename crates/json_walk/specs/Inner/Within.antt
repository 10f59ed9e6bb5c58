-- The places between the quotes of a string.
use Rattle.std.specs.Prelude.{if◌then◌else◌, ℕ, ◌+◌, ◌-◌, List, length, ltb}

-- The place after i, and past the end of the text i itself: all bytes there are 0.
unfoldable pub ahead : List ℕ → ℕ → ℕ
ahead s i = if ltb i (length s) then i + 1 else i

-- How many bytes stand between the quotes of a string from k to j.
abbrev pub within : ℕ → ℕ → ℕ
within k j = j - k - 2
