-- Worked searches: the mark at place i is the second i.
use Prim.Native.Nat.{ℕ}
use mathlib.Core.List.{[], ◌∷◌, map}
use mathlib.Core.Path.{◌≡◌, refl}
use lib.IntN.{ℤ, pos, negsuc}
use Rattle.zone.specs.Search.{halve, search_by}

-- The steps and the place, of a local time in so many marks.
unfoldable pub searched : ℕ × ℤ → ℕ × ℕ
searched c = let f = search_by 11 (λ (i : ℕ). pos i) c.1 0 c.0 in (f.steps, f.place)

-- No mark; before the only one and at its own second; the middle and both ends of 1,023 and of 1,024.
pub worked : map searched
    ((0, pos 5) ∷ (1, negsuc 0) ∷ (1, pos 0) ∷ (1023, pos 510) ∷ (1023, pos 511) ∷ (1023, negsuc 0) ∷ (1023, pos 5000)
    ∷ (1024, pos 511) ∷ (1024, pos 512) ∷ (1024, negsuc 0) ∷ (1024, pos 0) ∷ (1024, pos 5000) ∷ [])
    ≡ (0, 0) ∷ (1, 0) ∷ (1, 1) ∷ (10, 511) ∷ (10, 512) ∷ (10, 0) ∷ (10, 1023) ∷ (10, 512) ∷ (10, 513) ∷ (11, 0) ∷ (11, 1) ∷ (10, 1024) ∷ []
unfolding searched search_by halve
worked = refl

-- Ten steps are too few: of 1,024 marks the first is reached, and they leave it in question.
pub ten-too-few : (search_by 10 (λ (i : ℕ). pos i) (pos 0) 0 1024).place ≡ 0
unfolding search_by halve
ten-too-few = refl
