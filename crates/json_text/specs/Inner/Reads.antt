-- What is known of the byte r that was read at the place i: which it is, and that it is 0 past the end.
use Rattle.std.specs.Prelude.{ℕ, ◌-◌, ◌*◌, ◌≤◌, List, ◌≡◌, length, get_or}

pub record ByteAt (s : List ℕ) (i r : ℕ) : Type 0 where
  pub is : r ≡ get_or s i 0
  pub within : r ≤ 255 * (length s - i)
