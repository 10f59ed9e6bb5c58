-- Laws of the bytes of a string: one turn of each loop, and the place after a place.
use Rattle.std.specs.Prelude.{if◌then◌else◌}
use Prim.Native.Nat.{ℕ, zero, suc, ◌+◌, ◌-◌, ◌≤◌, ◌<◌}
use mathlib.Core.Bool.{Bool, true, false}
use mathlib.Core.List.{List, [], ◌∷◌, ◌++◌}
use mathlib.Core.Path.{◌≡◌, refl, ap, sym, ◌∙◌}
use native.Mathlib.Numerals.{sub-one}
use native.Mathlib.Omega.{arith}
use native.Mathlib.Decide.{dec_lt}
use lib.Dec.{eqb, ltb}
use lib.ListN.{length, get_or, length-append, get_or-eq_default}
use lib.Seq.{append_snoc, get_or-append_seam}
use borrow.Author.Tests.{lt-ltb, le-ltb, eqb-true}
use Rattle.signed.proofs.Parts.{false-true}
use Rattle.json_walk.specs.Strings.{bytes_at, same, slashed}
use Rattle.json_walk.specs.Inner.Within.{ahead}

-- Past the end all places are alike: 0 and 0 again.
bytes_past : (n : ℕ) (s : List ℕ) (i j : ℕ) → length s ≤ i → length s ≤ j → bytes_at n s i ≡ bytes_at n s j
unfolding bytes_at
bytes_past zero s i j p q = refl
bytes_past (suc n) s i j p q = rw (get_or-eq_default s 0 p, get_or-eq_default s 0 q, bytes_past n s (i + 1) (j + 1) (omega arith) (omega arith))

pub bytes-ahead : (n : ℕ) (s : List ℕ) (i : ℕ) → bytes_at n s (i + 1) ≡ bytes_at n s (ahead s i)
unfolding ahead
bytes-ahead n s i = go (dec_lt i (length s))
  where
    go : Dec (i < length s) → bytes_at n s (i + 1) ≡ bytes_at n s (if ltb i (length s) then i + 1 else i)
    go (yes p) = rw (lt-ltb i (length s) p)
    go (no q) = let r : length s ≤ i = omega arith in rw (le-ltb i (length s) r) (bytes_past n s (i + 1) i (omega arith) r)

same_step : (n : ℕ) → 0 < n → (s : List ℕ) (i : ℕ) (w : List ℕ) (j : ℕ)
    → same (bytes_at n s i) (bytes_at n w j) ≡ (if eqb (get_or s i 0) (get_or w j 0) then same (bytes_at (n - 1) s (ahead s i)) (bytes_at (n - 1) w (ahead w j)) else false)
unfolding bytes_at same
same_step zero h s i w j = absurd (omega arith)
same_step (suc n) h s i w j = rw (sub-one, bytes-ahead n s i, bytes-ahead n w j)

same_none : (n : ℕ) → n ≤ 0 → (s : List ℕ) (i : ℕ) (w : List ℕ) (j : ℕ) → same (bytes_at n s i) (bytes_at n w j) ≡ true
unfolding bytes_at same
same_none zero h s i w j = refl
same_none (suc n) h s i w j = absurd (omega arith)

slashed-step : (n : ℕ) → 0 < n → (s : List ℕ) (i : ℕ)
    → slashed (bytes_at n s i) ≡ (if eqb (get_or s i 0) 0x5C then true else slashed (bytes_at (n - 1) s (ahead s i)))
unfolding bytes_at slashed
slashed-step zero h s i = absurd (omega arith)
slashed-step (suc n) h s i = rw (sub-one, bytes-ahead n s i)

slashed-none : (n : ℕ) → n ≤ 0 → (s : List ℕ) (i : ℕ) → slashed (bytes_at n s i) ≡ false
unfolding bytes_at slashed
slashed-none zero h s i = refl
slashed-none (suc n) h s i = absurd (omega arith)

-- A loop over n bytes: a turn of it after k turns, and its end.
less-one : (n k : ℕ) → n - k - 1 ≡ n - (k + 1)
less-one n k = omega arith

pub same-turn : (n k : ℕ) → k < n → (s : List ℕ) (i : ℕ) (w : List ℕ) (j : ℕ)
    → same (bytes_at (n - k) s i) (bytes_at (n - k) w j)
    ≡ (if eqb (get_or s i 0) (get_or w j 0) then same (bytes_at (n - (k + 1)) s (ahead s i)) (bytes_at (n - (k + 1)) w (ahead w j)) else false)
same-turn n k h s i w j = rw (same_step (n - k) (omega arith) s i w j, less-one n k)

pub same-over : (n k : ℕ) → n ≤ k → (s : List ℕ) (i : ℕ) (w : List ℕ) (j : ℕ) → same (bytes_at (n - k) s i) (bytes_at (n - k) w j) ≡ true
same-over n k h = same_none (n - k) (omega arith)

pub slashed-turn : (n k : ℕ) → k < n → (s : List ℕ) (i : ℕ)
    → slashed (bytes_at (n - k) s i) ≡ (if eqb (get_or s i 0) 0x5C then true else slashed (bytes_at (n - (k + 1)) s (ahead s i)))
slashed-turn n k h s i = rw (slashed-step (n - k) (omega arith) s i, less-one n k)

pub slashed-over : (n k : ℕ) → n ≤ k → (s : List ℕ) (i : ℕ) → slashed (bytes_at (n - k) s i) ≡ false
slashed-over n k h = slashed-none (n - k) (omega arith)

-- Lists of different lengths are not the same.
both : (b : Bool) → (if b then false else false) ≡ false
both true = refl
both false = refl

same-unlike : (x y : List ℕ) → (length x ≡ length y → ⊥) → same x y ≡ false
unfolding same
same-unlike [] [] h = absurd (h refl)
same-unlike [] (b ∷ y) h = refl
same-unlike (a ∷ x) [] h = refl
same-unlike (a ∷ x) (b ∷ y) h = rw (same-unlike x y (λ e. h (ap suc e))) (both (eqb a b))

pub length-bytes : (n : ℕ) (s : List ℕ) (i : ℕ) → length (bytes_at n s i) ≡ n
unfolding bytes_at
length-bytes zero s i = refl
length-bytes (suc n) s i = ap suc (length-bytes n s (i + 1))

pub same-lengths : (n m : ℕ) → (n ≡ m → ⊥) → (s : List ℕ) (i j : ℕ) → same (bytes_at n s i) (bytes_at m s j) ≡ false
same-lengths n m h s i j = same-unlike _ _ (λ e. h (sym (length-bytes n s i) ∙ e ∙ length-bytes m s j))

pub same_word : (n : ℕ) (w : List ℕ) → (n ≡ length w → ⊥) → (s : List ℕ) (i : ℕ) → same (bytes_at n s i) w ≡ false
same_word n w h s i = same-unlike _ _ (λ e. h (sym (length-bytes n s i) ∙ e))

-- All bytes of a list are the list.
bytes-from : (p w : List ℕ) → bytes_at (length w) (p ++ w) (length p) ≡ w
unfolding bytes_at
bytes-from p [] = refl
bytes-from p (b ∷ w) = rw (get_or-append_seam p b w 0, ← (append_snoc p b w), ← (length-append p (b ∷ []))) (ap (λ l. b ∷ l) (bytes-from (p ++ b ∷ []) w))

bytes-all : (w : List ℕ) → bytes_at (length w) w 0 ≡ w
bytes-all w = bytes-from [] w

pub same-all : (x : List ℕ) (n : ℕ) (w : List ℕ) → n ≡ length w → same x (bytes_at n w 0) ≡ same x w
same-all x n w e = rw (e, bytes-all w)

-- Strings that compare as the same are equal.
pub same-eq : (x y : List ℕ) → same x y ≡ true → x ≡ y
unfolding same
same-eq [] [] p = refl
same-eq [] (b ∷ y) p = false-true p
same-eq (a ∷ x) [] p = false-true p
same-eq (a ∷ x) (b ∷ y) p = go (eqb a b) refl p (same-eq x y)
  where
    go : (t : Bool) → eqb a b ≡ t → (if t then same x y else false) ≡ true → (same x y ≡ true → x ≡ y) → a ∷ x ≡ b ∷ y
    go true e q f = rw (eqb-true a b e, f q)
    go false e q f = false-true q
