-- The numbers of a duration as the code counts them.
use Rattle.std.specs.Prelude.{if◌then◌else◌, ℕ, ◌≤◌, ◌≡◌, ltb}

-- One second more than 366 days. The code counts no number further: it is over the limit either way.
abbrev pub enough : ℕ
enough = 31622401

unfoldable pub capped : ℕ → ℕ
capped n = if ltb n enough then n else enough

-- What is known of the number r that stands for n in the code.
pub record Capped (n r : ℕ) : Type 0 where
  pub is : r ≡ capped n
  pub small : r ≤ enough
