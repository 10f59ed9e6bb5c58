-- Digits, and what they write. RFC 5234, B.1: DIGIT = %x30-39
use Rattle.std.specs.Prelude.{ℕ, ◌+◌, ◌-◌, ◌*◌, List}
use Rattle.json_text.specs.Bytes.{byte}

-- The value of a digit.
abbrev pub digit : ℕ → ℕ
digit b = b - 0x30

-- 2DIGIT at a place, as a number
unfoldable pub two_at : List ℕ → ℕ → ℕ
two_at s i = 10 * digit (byte s i) + digit (byte s (i + 1))

-- 4DIGIT at a place, as a number
unfoldable pub four_at : List ℕ → ℕ → ℕ
four_at s i = 100 * two_at s i + two_at s (i + 2)
