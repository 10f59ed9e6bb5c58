-- 01, "The sheet and the words": what a sheet says, read back from its bytes. "Little-endian. Records of 28 bytes by id: id in local seconds, UTC
-- start, UTC end (8 each, signed), marks (1: busy 1, all-day 2, floating 4), three zeros."
use Rattle.std.specs.Prelude.{ℕ, ◌+◌, ◌*◌, List, ℤ}
use Rattle.little_endian.specs.Bytes.{number_at, signed_of}

-- The numbers of record k.
unfoldable pub id_at : List ℕ → ℕ → ℤ
id_at s k = signed_of (number_at 8 (28 * k) s)

unfoldable pub start_at : List ℕ → ℕ → ℤ
start_at s k = signed_of (number_at 8 (28 * k + 8) s)

unfoldable pub end_at : List ℕ → ℕ → ℤ
end_at s k = signed_of (number_at 8 (28 * k + 16) s)

unfoldable pub marks_at : List ℕ → ℕ → ℕ
marks_at s k = number_at 1 (28 * k + 24) s

unfoldable pub zeros_at : List ℕ → ℕ → ℕ
zeros_at s k = number_at 3 (28 * k + 25) s

-- A record by its numbers.
pub record Row : Type 0 where
  pub id : ℤ
  pub start : ℤ
  pub end : ℤ
  pub marks : ℕ

unfoldable pub row_at : List ℕ → ℕ → Row
row_at s k = record { id = id_at s k; start = start_at s k; end = end_at s k; marks = marks_at s k }
