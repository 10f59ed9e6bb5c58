-- "uploads per week sum to the uploads of the log inside the range"
use Rattle.std.specs.Prelude.{ℕ, ◌+◌, Bool, ◌&&◌, List, [], ◌∷◌, ℤ}
use Rattle.std.specs.Int.Signed.{lt_z, le_z}

unfoldable pub sum : List ℕ → ℕ
sum [] = 0
sum (n ∷ l) = n + sum l

-- A range takes in its start and not its end.
unfoldable pub in_range : ℤ → ℤ → ℤ → Bool
in_range from to t = le_z from t && lt_z t to
