-- Overrides whose ids increase, as those of most texts do.
use Rattle.std.specs.Prelude.{if◌then◌else◌, ℕ, suc, ◌+◌, ◌<◌, ◌≤◌, Bool, true, List, [], ◌∷◌, ◌≡◌, ltb, length, get_or}

-- Each id is less than the one after it.
pub record Rising (ids : List ℕ) : Type 0 where
  pub each : (i : ℕ) → i + 1 < length ids → get_or ids i 0 < get_or ids (i + 1) 0

-- What is known of ids that were found to increase, and nothing of others.
abbrev pub Ordered : List ℕ → Bool → Type 0
Ordered ids sorted = sorted ≡ true → Rising ids

-- How many ids stand before the first that is not less than x.
unfoldable pub less_than : ℕ → List ℕ → ℕ
less_than x [] = 0
less_than x (i ∷ ids) = if ltb i x then suc (less_than x ids) else 0

-- The place of the first id that is not less than x: that of x itself, where x is one of them.
pub record Below (ids : List ℕ) (x r : ℕ) : Type 0 where
  pub is : r ≡ less_than x ids
  pub within : r ≤ length ids
  pub less : (i : ℕ) → i < r → get_or ids i 0 < x
  pub rest : r < length ids → x ≤ get_or ids r 0
