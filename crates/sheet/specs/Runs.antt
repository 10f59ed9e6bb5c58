-- Runs of numbers: k, k + 1, .., n of them.
use Rattle.std.specs.Prelude.{ℕ, zero, suc, Bool, true, ◌&&◌, List, [], ◌∷◌}

-- f k, f (k + 1), .., n of them.
unfoldable pub tabulate : {A : Type 0} → (ℕ → A) → ℕ → ℕ → List A
tabulate f k zero = []
tabulate f k (suc n) = f k ∷ tabulate f (suc k) n

-- p holds of k, k + 1, .., n of them.
unfoldable pub every : (ℕ → Bool) → ℕ → ℕ → Bool
every p k zero = true
every p k (suc n) = p k && every p (suc k) n
