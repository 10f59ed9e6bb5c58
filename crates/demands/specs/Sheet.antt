-- 01, "The sheet and the words": the trailer of a sheet in a buffer. The numbers of its records are those of `sheet` Records.
use Rattle.std.specs.Prelude.{ℕ, ◌+◌, ◌*◌, ◌≤◌, List, ◌≡◌, length, drop}
use Rattle.little_endian.specs.Bytes.{number_at}

-- A buffer that begins with a sheet of n records. `size` is the length that the call reports, `before` and `after` are the buffer at entry and at
-- exit. "The trailer stands last and points back: record size 28 (2), version 1 (2), count (4), distance from trailer to first record (4)."
-- "After 0 the sheet fills the first bytes of the buffer and the others keep their values."
pub record HasSheet (n size : ℕ) (before after : List ℕ) : Type 0 where
  pub size_is : size ≡ 28 * n + 12
  pub room : size ≤ length before
  pub record_size : number_at 2 (28 * n) after ≡ 28
  pub version : number_at 2 (28 * n + 2) after ≡ 1
  pub count : number_at 4 (28 * n + 4) after ≡ n
  pub distance : number_at 4 (28 * n + 8) after ≡ 28 * n
  pub others : drop size after ≡ drop size before
  pub whole : length after ≡ length before
