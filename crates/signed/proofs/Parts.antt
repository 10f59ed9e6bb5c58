-- The lemmas that carry integers to what the arithmetic tactic reads: an order, an equation, a sum or a difference of integers as one of
-- their positive and negative parts. Each goes by the signs.
use Prim.Native.Nat.{ℕ, zero, suc, ◌+◌, ◌-◌, ◌<◌, ◌≤◌, ◌^◌}
use mathlib.Core.Bool.{Bool, true, false, cond}
use mathlib.Core.Path.{◌≡◌, refl, sym, ap}
use native.Mathlib.Omega.{arith}
use lib.Dec.{ltb}
use lib.IntN.{ℤ, pos, negsuc, neg_ℤ, nat_abs, sub_ℕ, ◌+ℤ◌, ◌-ℤ◌}
use lib.Signed.{lt_z, le_z, mag}
use mir.Syntax.{w64}
use mir.Val.{SFits, to_z, of_z}
use mir.Facts.{to_z-of_z}
use borrow.Author.Tests.{ltb-true, ltb-false, leb-true, leb-false, lt-ltb, le-ltb, le-leb, lt-leb}
use Rattle.signed.specs.Parts.{pos_part, neg_part}

-- no test is both
pub false-true : {A : Type 0} → false ≡ true → A
false-true p = absurd (let z : ◌≡◌ {A = ℕ} 0 1 = ap (λ (t : Bool). cond t 1 0) p in omega arith)

pub true-false : {A : Type 0} → true ≡ false → A
true-false p = false-true (sym p)

-- ---- order

pub le_parts : (a b : ℤ) → le_z a b ≡ true → pos_part a + neg_part b ≤ pos_part b + neg_part a
le_parts (pos a) (pos b) e = omega (arith, leb-true a b e)
le_parts (pos a) (negsuc b) e = false-true e
le_parts (negsuc a) (pos b) e = omega arith
le_parts (negsuc a) (negsuc b) e = omega (arith, leb-true b a e)

pub not-le-parts : (a b : ℤ) → le_z a b ≡ false → pos_part b + neg_part a < pos_part a + neg_part b
not-le-parts (pos a) (pos b) e = omega (arith, leb-false a b e)
not-le-parts (pos a) (negsuc b) e = omega arith
not-le-parts (negsuc a) (pos b) e = true-false e
not-le-parts (negsuc a) (negsuc b) e = omega (arith, leb-false b a e)

pub lt-parts : (a b : ℤ) → lt_z a b ≡ true → pos_part a + neg_part b < pos_part b + neg_part a
lt-parts (pos a) (pos b) e = omega (arith, ltb-true a b e)
lt-parts (pos a) (negsuc b) e = false-true e
lt-parts (negsuc a) (pos b) e = omega arith
lt-parts (negsuc a) (negsuc b) e = omega (arith, ltb-true b a e)

pub not-lt-parts : (a b : ℤ) → lt_z a b ≡ false → pos_part b + neg_part a ≤ pos_part a + neg_part b
not-lt-parts (pos a) (pos b) e = omega (arith, ltb-false a b e)
not-lt-parts (pos a) (negsuc b) e = omega arith
not-lt-parts (negsuc a) (pos b) e = true-false e
not-lt-parts (negsuc a) (negsuc b) e = omega (arith, ltb-false b a e)

-- and back
pub parts-le : (a b : ℤ) → pos_part a + neg_part b ≤ pos_part b + neg_part a → le_z a b ≡ true
parts-le (pos a) (pos b) h = le-leb a b (omega arith)
parts-le (pos a) (negsuc b) h = absurd (omega arith)
parts-le (negsuc a) (pos b) h = refl
parts-le (negsuc a) (negsuc b) h = le-leb b a (omega arith)

pub parts-not-le : (a b : ℤ) → pos_part b + neg_part a < pos_part a + neg_part b → le_z a b ≡ false
parts-not-le (pos a) (pos b) h = lt-leb a b (omega arith)
parts-not-le (pos a) (negsuc b) h = refl
parts-not-le (negsuc a) (pos b) h = absurd (omega arith)
parts-not-le (negsuc a) (negsuc b) h = lt-leb b a (omega arith)

pub parts-lt : (a b : ℤ) → pos_part a + neg_part b < pos_part b + neg_part a → lt_z a b ≡ true
parts-lt (pos a) (pos b) h = lt-ltb a b (omega arith)
parts-lt (pos a) (negsuc b) h = absurd (omega arith)
parts-lt (negsuc a) (pos b) h = refl
parts-lt (negsuc a) (negsuc b) h = lt-ltb b a (omega arith)

pub parts-not-lt : (a b : ℤ) → pos_part b + neg_part a ≤ pos_part a + neg_part b → lt_z a b ≡ false
parts-not-lt (pos a) (pos b) h = le-ltb a b (omega arith)
parts-not-lt (pos a) (negsuc b) h = refl
parts-not-lt (negsuc a) (pos b) h = absurd (omega arith)
parts-not-lt (negsuc a) (negsuc b) h = le-ltb b a (omega arith)

-- ---- equality

pub parts-eq : (a b : ℤ) → pos_part a + neg_part b ≡ pos_part b + neg_part a → a ≡ b
parts-eq (pos a) (pos b) h = ap pos (omega arith)
parts-eq (pos a) (negsuc b) h = absurd (omega arith)
parts-eq (negsuc a) (pos b) h = absurd (omega arith)
parts-eq (negsuc a) (negsuc b) h = ap negsuc (omega arith)

-- a number that is not below zero is its positive part, any other its negative part
pub natural : (z : ℤ) → lt_z z (pos 0) ≡ false → z ≡ pos (pos_part z)
natural (pos n) e = refl
natural (negsuc n) e = true-false e

pub negative : (z : ℤ) → lt_z z (pos 0) ≡ true → z ≡ negsuc (neg_part z - 1)
negative (pos n) e = absurd (omega (arith, ltb-true n 0 e))
negative (negsuc n) e = ap negsuc (omega arith)

-- ---- sums and differences

module _ (a b : ℕ) where
  -- what the tactic needs of a - b, by which of the two is larger
  record Between (d : ℤ) : Type 0 where
    even : pos_part d + b ≡ neg_part d + a
    up : pos_part d ≤ a
    down : neg_part d ≤ b

  between : (t : Bool) → ltb a b ≡ t → Between (cond t (negsuc (b - suc a)) (pos (a - b)))
  between true e = let h = ltb-true a b e in record { even = omega arith; up = omega arith; down = omega arith }
  between false e = let h = ltb-false a b e in record { even = omega arith; up = omega arith; down = omega arith }

  pub subℕ-parts : pos_part (sub_ℕ a b) + b ≡ neg_part (sub_ℕ a b) + a
  subℕ-parts = (between (ltb a b) refl).even

  pub subℕ-pos : pos_part (sub_ℕ a b) ≤ a
  subℕ-pos = (between (ltb a b) refl).up

  pub subℕ-neg : neg_part (sub_ℕ a b) ≤ b
  subℕ-neg = (between (ltb a b) refl).down

pub sum-parts : (a b : ℤ) → pos_part (a +ℤ b) + neg_part a + neg_part b ≡ neg_part (a +ℤ b) + pos_part a + pos_part b
sum-parts (pos a) (pos b) = omega arith
sum-parts (pos a) (negsuc b) = omega (arith, subℕ-parts a (suc b))
sum-parts (negsuc a) (pos b) = omega (arith, subℕ-parts b (suc a))
sum-parts (negsuc a) (negsuc b) = omega arith

pub neg-pos : (z : ℤ) → pos_part (neg_ℤ z) ≡ neg_part z
neg-pos (pos zero) = refl
neg-pos (pos (suc n)) = refl
neg-pos (negsuc n) = refl

pub neg-neg : (z : ℤ) → neg_part (neg_ℤ z) ≡ pos_part z
neg-neg (pos zero) = refl
neg-neg (pos (suc n)) = refl
neg-neg (negsuc n) = refl

pub diff-parts : (a b : ℤ) → pos_part (a -ℤ b) + neg_part a + pos_part b ≡ neg_part (a -ℤ b) + pos_part a + neg_part b
diff-parts a b = omega (arith, sum-parts a (neg_ℤ b), neg-pos b, neg-neg b)

-- ---- ranges

pub abs-parts : (z : ℤ) → nat_abs z ≡ pos_part z + neg_part z
abs-parts (pos n) = omega arith
abs-parts (negsuc n) = omega arith

-- one part is the whole size: what a bound on a sum of parts needs
pub pos-abs : (z : ℤ) → pos_part z ≤ nat_abs z
pos-abs (pos n) = omega arith
pos-abs (negsuc n) = omega arith

pub neg-abs : (z : ℤ) → neg_part z ≤ nat_abs z
neg-abs (pos n) = omega arith
neg-abs (negsuc n) = omega arith

pub parts-abs : (z : ℤ) (k : ℕ) → pos_part z ≤ k → neg_part z ≤ k → nat_abs z ≤ k
parts-abs (pos n) k p q = omega arith
parts-abs (negsuc n) k p q = omega arith

-- what an i64 holds
pub parts-fit : (z : ℤ) → pos_part z < 2 ^ 63 → neg_part z ≤ 2 ^ 63 → SFits w64 z
parts-fit (pos n) p q = record { sfits = p }
parts-fit (negsuc n) p q = record { sfits = omega arith }

pub fit-pos : (z : ℤ) → SFits w64 z → pos_part z < 2 ^ 63
fit-pos (pos n) f = f.sfits
fit-pos (negsuc n) f = omega arith

pub fit-neg : (z : ℤ) → SFits w64 z → neg_part z ≤ 2 ^ 63
fit-neg (pos n) f = omega arith
fit-neg (negsuc n) f = omega (arith, f.sfits)

-- the bits of a number read back, by its range as a call or a slice has it
pub back : (z : ℤ) → mag z < 2 ^ 63 → to_z w64 (of_z w64 z) ≡ z
back z h = to_z-of_z {w = w64} (record { sfits = h })

-- a - b of a number that is not smaller
pub subℕ-above : (a b : ℕ) → b ≤ a → pos_part (sub_ℕ a b) ≡ a - b
subℕ-above a b h = rw (le-ltb a b h)

-- what a call ensures of a signed argument that is passed on speaks of the number read back from its bits
pub passed : {A : Type 0} (f : ℤ → A) {z : ℤ} {r : A} → SFits w64 z → r ≡ f (to_z w64 (of_z w64 z)) → r ≡ f z
passed f h e = rw (to_z-of_z h) at e
