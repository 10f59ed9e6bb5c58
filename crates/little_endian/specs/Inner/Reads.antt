-- What a reader of n bytes hands back: their number, and that a machine's number has room for it.
use Rattle.std.specs.Prelude.{ℕ, ◌<◌, ◌^◌, List, ◌≡◌}
use Rattle.little_endian.specs.Bytes.{number_at}

pub record Reads (n i : ℕ) (s : List ℕ) (r : ℕ) : Type 0 where
  pub is : r ≡ number_at n i s
  pub within : r < 256 ^ n
