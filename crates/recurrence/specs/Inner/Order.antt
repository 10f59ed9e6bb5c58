-- Lists of date-times in order.
use Rattle.std.specs.Prelude.{ℕ, suc, ◌≤◌, Bool, List, [], ◌∷◌, eqb}
use Rattle.rule.specs.Lists.{any}

-- Strictly increasing, from a on: each is greater than the one before it.
abbrev pub IncreasesFrom : ℕ → List ℕ → Type 0
IncreasesFrom a [] = Unit {0}
IncreasesFrom a (x ∷ l) = (a ≤ x) × IncreasesFrom (suc x) l

abbrev pub StrictlyIncreases : List ℕ → Type 0
StrictlyIncreases l = IncreasesFrom 0 l

unfoldable pub among : ℕ → List ℕ → Bool
among x l = any (λ y. eqb y x) l
