-- Lists and counts that the rules speak of.
use Rattle.std.specs.Prelude.{if◌then◌else◌, ℕ, zero, suc, ◌+◌, Bool, true, false, ◌||◌, List, [], ◌∷◌, leb, ltb}
use Rattle.std.proofs.Math.Option.{Option, none, some}

-- Some entry of the list passes.
unfoldable pub any : {A : Type 0} → (A → Bool) → List A → Bool
any p [] = false
any p (a ∷ l) = p a || any p l

-- 01, 2: "every by-list .. has an entry that it meets": a list that is absent asks nothing.
unfoldable pub meets : {A : Type 0} → (A → Bool) → List A → Bool
meets p [] = true
meets p (a ∷ l) = any p (a ∷ l)

unfoldable pub absent : {A : Type 0} → List A → Bool
absent [] = true
absent (a ∷ l) = false

-- The list, or the other one where it is absent.
unfoldable pub or_else : {A : Type 0} → List A → List A → List A
or_else [] other = other
or_else (a ∷ l) other = a ∷ l

-- How many of the n days from a on pass.
unfoldable pub count_in : (ℕ → Bool) → ℕ → ℕ → ℕ
count_in p a zero = 0
count_in p a (suc n) = (if p a then 1 else 0) + count_in p (suc a) n

-- A limit that is not there lets everything through.
unfoldable pub within : ℕ → Option ℕ → Bool
within n none = true
within n (some most) = ltb n most

unfoldable pub not_after : ℕ → Option ℕ → Bool
not_after x none = true
not_after x (some last) = leb x last
