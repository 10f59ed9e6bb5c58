-- The raw bytes of a string, and tests on them.
use Rattle.std.specs.Prelude.{if◌then◌else◌, ℕ, zero, suc, ◌+◌, ◌-◌, Bool, true, false, List, [], ◌∷◌, eqb}
use Rattle.json_text.specs.Bytes.{byte}

-- n bytes from a place on
unfoldable pub bytes_at : ℕ → List ℕ → ℕ → List ℕ
bytes_at zero s i = []
bytes_at (suc n) s i = byte s i ∷ bytes_at n s (i + 1)

-- The bytes between the quotes of a string that stands at the place k and ends before the place j.
unfoldable pub raw_at : List ℕ → ℕ → ℕ → List ℕ
raw_at s k j = bytes_at (j - k - 2) s (k + 1)

-- Are two lists of bytes the same?
unfoldable pub same : List ℕ → List ℕ → Bool
same [] [] = true
same [] (b ∷ bs) = false
same (a ∷ l) [] = false
same (a ∷ l) (b ∷ bs) = if eqb a b then same l bs else false

-- Is one of them a backslash?
unfoldable pub slashed : List ℕ → Bool
slashed [] = false
slashed (b ∷ bs) = if eqb b 0x5C then true else slashed bs
