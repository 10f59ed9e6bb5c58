-- Numbers as bytes (01, "The sheet and the words": "Little-endian.").
use Rattle.std.specs.Prelude.{if◌then◌else◌, ℕ, zero, suc, ◌+◌, ◌*◌, ◌-◌, ◌/◌, ◌%◌, ◌<◌, ◌^◌, List, [], ◌∷◌, ltb, ℤ, pos, negsuc, get_or, take, drop}

-- the n lowest bytes of v, the lowest first
unfoldable pub bytes_of : ℕ → ℕ → List ℕ
bytes_of zero v = []
bytes_of (suc n) v = v % 256 ∷ bytes_of n (v / 256)

-- "8 each, signed": the two's complement in 64 bits. (`negsuc k` is -(k + 1).)
unfoldable pub twos : ℤ → ℕ
twos (pos n) = n
twos (negsuc k) = 2 ^ 64 - suc k

-- ---- and back: the number that bytes stand for, the lowest first

unfoldable pub value_of : List ℕ → ℕ
value_of [] = 0
value_of (b ∷ bs) = b + 256 * value_of bs

-- The number of the n bytes at i.
unfoldable pub number_at : ℕ → ℕ → List ℕ → ℕ
number_at n i s = value_of (take n (drop i s))

-- The signed number of which v is the two's complement in 64 bits.
unfoldable pub signed_of : ℕ → ℤ
signed_of v = if ltb v (2 ^ 63) then pos v else negsuc (2 ^ 64 - 1 - v)

-- Each number of the list is a byte.
abbrev pub AllBytes : List ℕ → Type 0
AllBytes s = (k : ℕ) → get_or s k 0 < 256
