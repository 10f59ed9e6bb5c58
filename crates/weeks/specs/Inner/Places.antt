-- Uploads and tallies, as the code finds them in the places; b is `up` of the range's start.
use Rattle.std.specs.Prelude.{if◌then◌else◌, ℕ, zero, suc, ◌+◌, ◌≤◌, Bool, List, [], ◌∷◌, ltb, eqb, ℤ, pos, negsuc, get_or, set}
use Rattle.signed.specs.Parts.{pos_part}
use Rattle.weeks.specs.Inner.Marks.{up, first_of}

-- One upload more.
unfoldable pub bump : ℤ → ℤ
bump (pos n) = pos (n + 1)
bump (negsuc n) = pos 1

unfoldable pub upload : ℕ → List ℤ → ℤ → List ℤ
upload b p t = if ltb (up t) b then p else set p (first_of b (up t)) (bump (get_or p (first_of b (up t)) (pos 0)))

unfoldable pub upload_all : ℕ → List ℤ → List ℤ → List ℤ
upload_all b [] p = p
upload_all b (t ∷ ts) p = upload_all b ts (upload b p t)

-- No place holds more than m.
abbrev pub Below : ℕ → List ℤ → Type 0
Below m p = (i : ℕ) → pos_part (get_or p i (pos 0)) ≤ m

-- 0 for a week that is reported, 1 for one that is shut, 2 for one that is missing.
unfoldable pub class_of : ℤ → ℕ
class_of (pos n) = 0
class_of (negsuc zero) = 1
class_of (negsuc (suc n)) = 2

abbrev pub in_class : ℕ → ℤ → Bool
in_class c z = eqb (class_of z) c
