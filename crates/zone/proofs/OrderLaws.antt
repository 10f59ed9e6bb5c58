-- Numbers that increase.
use Prim.Native.Nat.{ℕ, zero, suc, ◌+◌, ◌-◌, ◌<◌, ◌≤◌}
use mathlib.Core.Bool.{Bool, true, false, ◌&&◌}
use mathlib.Core.List.{List, [], ◌∷◌}
use mathlib.Core.Path.{◌≡◌, refl, sym, ◌∙◌}
use native.Mathlib.Omega.{arith}
use native.Mathlib.Numerals.{add-one}
use lib.IntN.{ℤ, pos, negsuc}
use Rattle.std.specs.List.{IsAllAdjacentAnswer}
use lib.ListN.{length, get_or, drop}
use lib.Signed.{le_z, lt_z}
use lib.Seq.{drop-cons}
use Rattle.signed.specs.Parts.{neg_part}
use Rattle.signed.proofs.Parts.{false-true, pos-abs, neg-abs, le_parts, not-le-parts, lt-parts, not-lt-parts, parts-lt, parts-not-lt, parts-not-le, parts-le}
use Rattle.zone.specs.Table.{within, all_within, increasing}
use Rattle.zone.proofs.RangeLaws.{and_left, and_right, in-range, range-abs}

pub le_not_lt : (a b : ℤ) → le_z b a ≡ true → lt_z a b ≡ false
le_not_lt a b e = parts-not-lt a b (omega (arith, le_parts b a e))

pub not-le-lt : (a b : ℤ) → le_z b a ≡ false → lt_z a b ≡ true
not-le-lt a b e = parts-lt a b (omega (arith, not-le-parts b a e))

pub lt_not_le : (a b : ℤ) → lt_z a b ≡ true → le_z b a ≡ false
lt_not_le a b e = parts-not-le b a (omega (arith, lt-parts a b e))

pub not-lt-le : (a b : ℤ) → lt_z a b ≡ false → le_z b a ≡ true
not-lt-le a b e = parts-le b a (omega (arith, not-lt-parts a b e))

pub lt_trans : (a b c : ℤ) → lt_z a b ≡ true → lt_z b c ≡ true → lt_z a c ≡ true
lt_trans a b c p q = parts-lt a c (omega (arith, lt-parts a b p, lt-parts b c q))

-- two neighbours
pair : (s : List ℤ) (i : ℕ) → suc i < length s → increasing (drop i s) ≡ lt_z (get_or s i (pos 0)) (get_or s (suc i) (pos 0)) && increasing (drop (suc i) s)
unfolding increasing
pair s i h = rw (drop-cons s i (pos 0) (omega arith), drop-cons s (suc i) (pos 0) h)

-- what is left of increasing numbers increases
tail : (a : ℤ) (s : List ℤ) → increasing (a ∷ s) ≡ true → increasing s ≡ true
unfolding increasing
tail a [] e = refl
tail a (b ∷ s) e = and_right (lt_z a b) (increasing (b ∷ s)) e

pub increasing-drop : (i : ℕ) (s : List ℤ) → increasing s ≡ true → increasing (drop i s) ≡ true
increasing-drop zero s e = e
increasing-drop (suc i) [] e = e
increasing-drop (suc i) (a ∷ s) e = increasing-drop i s (tail a s e)

-- each is below the next
pub neighbours : (s : List ℤ) (i : ℕ) → suc i < length s → increasing s ≡ true → lt_z (get_or s i (pos 0)) (get_or s (suc i) (pos 0)) ≡ true
neighbours s i h up = and_left _ _ (rw (pair s i h) at (increasing-drop i s up))

-- and numbers each of which is below the next increase
pub each-below : (s : List ℤ) → ((i : ℕ) → i + 1 < length s → (d : ℤ) → true ≡ lt_z (get_or s i d) (get_or s (i + 1) d)) → increasing s ≡ true
unfolding increasing
each-below [] f = refl
each-below (a ∷ []) f = refl
each-below (a ∷ b ∷ s) f =
    let h = f 0 (omega arith) a in
    rw (sym h) (each-below (b ∷ s) (λ i g d. rw add-one (rw add-one at (f (suc i) (omega arith) d))))

-- what the library's test of neighbours answers
pub sorted-answer : (s : List ℤ) (r : Bool) → IsAllAdjacentAnswer (λ x y t. t ≡ lt_z x y) s r → r ≡ increasing s
sorted-answer s true w = sym (each-below s (λ i h d. w i d h))
sorted-answer s false (k, h, w) = by (increasing s) refl
  where
    by : (t : Bool) → increasing s ≡ t → false ≡ increasing s
    by true up = false-true (w (pos 0) ∙ (rw add-one (neighbours s k (rw add-one at h) up)))
    by false up = sym up

-- what is not below the larger of two is not below the smaller
pub not-lt-smaller : (x a b : ℤ) → lt_z a b ≡ true → lt_z x b ≡ false → lt_z x a ≡ false
not-lt-smaller x a b p q = parts-not-lt x a (omega (arith, lt-parts a b p, not-lt-parts x b q))

-- ---- numbers that increase are within ±k when the first and the last are

above_low : (k : ℕ) (a b : ℤ) → lt_z a b ≡ true → neg_part a ≤ k → neg_part b ≤ k
above_low k a (pos b) p h = omega arith
above_low k a (negsuc b) p h = omega (arith, lt-parts a (negsuc b) p)

below_in : (k : ℕ) (a b : ℤ) → lt_z a b ≡ true → neg_part a ≤ k → within k b ≡ true → within k a ≡ true
below_in k (pos a) b p h e = sym (in-range k (pos a) (omega (arith, lt-parts (pos a) b p, pos-abs b, range-abs k b e)) h)
below_in k (negsuc a) b p h e = sym (in-range k (negsuc a) (omega arith) h)

and-true : (t : Bool) → t ≡ t && true
and-true true = refl
and-true false = refl

-- what follows from the second of two need not be asked
follows : (p t : Bool) → (t ≡ true → p ≡ true) → t ≡ p && t
follows true t f = refl
follows false true f = sym (f refl)
follows false false f = refl

-- none is too low, so the last decides
last-in : (k : ℕ) (a : ℤ) (s : List ℤ) → increasing (a ∷ s) ≡ true → neg_part a ≤ k → within k (get_or (a ∷ s) (length s) (pos 0)) ≡ all_within k (a ∷ s)
unfolding increasing all_within
last-in k a [] up h = and-true (within k a)
last-in k a (b ∷ s) up h =
    let p = and_left (lt_z a b) (increasing (b ∷ s)) up in
    last-in k b s (and_right (lt_z a b) (increasing (b ∷ s)) up) (above_low k a b p h)
    ∙ follows (within k a) (all_within k (b ∷ s)) (λ e. below_in k a b p h (and_left (within k b) (all_within k s) e))

pub ends-none : (k : ℕ) (s : List ℤ) → length s ≡ 0 → true ≡ all_within k s
unfolding all_within
ends-none k [] h = refl
ends-none k (a ∷ s) h = absurd (omega arith)

pub ends-one : (k : ℕ) (s : List ℤ) → length s ≡ 1 → within k (get_or s 0 (pos 0)) ≡ all_within k s
unfolding all_within
ends-one k [] h = absurd (omega arith)
ends-one k (a ∷ []) h = and-true (within k a)
ends-one k (a ∷ b ∷ s) h = absurd (omega arith)

pub ends-first : (k : ℕ) (s : List ℤ) → (length s ≡ 0 → ⊥) → within k (get_or s 0 (pos 0)) ≡ false → false ≡ all_within k s
unfolding all_within
ends-first k [] h e = absurd (h refl)
ends-first k (a ∷ s) h e = rw e

pub ends_last : (k : ℕ) (s : List ℤ) → (length s ≡ 0 → ⊥) → increasing s ≡ true → within k (get_or s 0 (pos 0)) ≡ true
    → within k (get_or s (length s - 1) (pos 0)) ≡ all_within k s
ends_last k [] h up e = absurd (h refl)
ends_last k (a ∷ s) h up e =
    let z : length (a ∷ s) - 1 ≡ length s = omega arith in
    rw z (last-in k a s up (omega (arith, neg-abs a, range-abs k a e)))
