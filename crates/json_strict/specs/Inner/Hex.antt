-- What the reader of a HEXDIG answers.
use Rattle.std.specs.Prelude.{ℕ, ◌≤◌, ◌≡◌}
use Rattle.json_strict.specs.Surrogates.{hex_value}

pub record HexValue (b r : ℕ) : Type 0 where
  pub is : r ≡ hex_value b
  pub small : r ≤ 15
