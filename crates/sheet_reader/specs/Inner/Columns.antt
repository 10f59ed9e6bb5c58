-- One of the signed numbers of a record.
use Rattle.std.specs.Prelude.{ℕ, ◌+◌, ◌*◌, List, ℤ}
use Rattle.little_endian.specs.Bytes.{number_at, signed_of}

-- The number that stands `place` bytes after the first of record k.
unfoldable pub signed_at : ℕ → List ℕ → ℕ → ℤ
signed_at place s k = signed_of (number_at 8 (28 * k + place) s)
