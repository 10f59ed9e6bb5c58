-- What the reader of a digit, and of digits, answers: a number that is larger than the largest only as such.
use Rattle.std.specs.Prelude.{ℕ, ◌-◌, ◌≤◌, ◌<◌, ◌≡◌}
use Rattle.json_tree.specs.Integers.{largest}

pub record DigitValue (b r : ℕ) : Type 0 where
  pub is : r ≡ b - 0x30
  pub within : r ≤ 207

pub record Capped (d r : ℕ) : Type 0 where
  pub small : r ≤ largest → r ≡ d
  pub large : largest < r → largest < d
