-- What is known of the number r that was read of two bytes at the place i: which it is, and that any two bytes give a small one.
use Rattle.std.specs.Prelude.{ℕ, ◌≤◌, List, ◌≡◌}
use Rattle.digits.specs.Digits.{two_at}

pub record TwoAt (s : List ℕ) (i r : ℕ) : Type 0 where
  pub is : r ≡ two_at s i
  pub small : r ≤ 2277
