-- The front of an escape that may be that of a surrogate: a backslash, u and D. Only the code asks for it; what a surrogate
-- and its partner are says `Surrogates`.
use Rattle.std.specs.Prelude.{if◌then◌else◌, ℕ, ◌+◌, ◌≤◌, ◌<◌, Bool, true, false, List, ◌≡◌, eqb, get_or}

-- 0 where two bytes are the same, else 1; and 0 where a byte is a D, in either case, else 1.
unfoldable pub differ : ℕ → ℕ → ℕ
differ a b = if eqb a b then 0 else 1

unfoldable pub lacks_d : ℕ → ℕ
lacks_d c = if eqb c 0x44 then 0 else differ c 0x64

-- A number that is this one, and so small that three of it make a byte.
pub record Small (want r : ℕ) : Type 0 where
  pub is : r ≡ want
  pub small : r ≤ 1

-- Do three bytes begin such an escape?
unfoldable pub is_d : ℕ → Bool
is_d c = if eqb c 0x44 then true else eqb c 0x64

unfoldable pub front : ℕ → ℕ → ℕ → Bool
front a b c = if eqb a 0x5C then (if eqb b 0x75 then is_d c else false) else false

-- None begins among the first bytes of a text.
unfoldable pub NoFront : List ℕ → ℕ → Type 0
NoFront s n = (k : ℕ) → k + 2 < n → front (get_or s k 0) (get_or s (k + 1) 0) (get_or s (k + 2) 0) ≡ false
