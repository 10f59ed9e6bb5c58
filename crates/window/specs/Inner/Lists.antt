-- The date-times of a stretch of time, as a list.
use Rattle.std.specs.Prelude.{if◌then◌else◌, ℕ, zero, suc, Bool, List, [], ◌∷◌}

-- All of n seconds from a on that pass, in order.
unfoldable pub list_in : (ℕ → Bool) → ℕ → ℕ → List ℕ
list_in p a zero = []
list_in p a (suc n) =
    let later = list_in p (suc a) n in
    if p a then a ∷ later else later
