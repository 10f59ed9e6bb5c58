-- Numbers within ±k: one by its parts, a list by its places.
use Prim.Native.Nat.{ℕ, zero, suc, ◌+◌, ◌<◌, ◌≤◌, ◌^◌}
use mathlib.Core.Bool.{Bool, true, false, ◌&&◌}
use mathlib.Core.List.{List, [], ◌∷◌}
use mathlib.Core.Path.{◌≡◌, refl, sym}
use native.Mathlib.Omega.{arith}
use borrow.Author.Tests.{leb-true, le-leb}
use lib.IntN.{ℤ, pos, negsuc, neg_ℤ, nat_abs, sub_ℕ, ◌+ℤ◌, ◌-ℤ◌}
use lib.ListN.{get_or}
use mir.Syntax.{w64}
use mir.Val.{SFits}
use Rattle.signed.specs.Parts.{pos_part, neg_part}
use Rattle.signed.proofs.Parts.{false-true, subℕ-pos, subℕ-neg, pos-abs, neg-abs, parts-abs, parts-fit}
use Rattle.zone.specs.Table.{within, all_within}

pub and_left : (a b : Bool) → a && b ≡ true → a ≡ true
and_left true b e = refl
and_left false b e = false-true e

pub and_right : (a b : Bool) → a && b ≡ true → b ≡ true
and_right true b e = e
and_right false b e = false-true e

-- ---- one number

pub in-range : (k : ℕ) (z : ℤ) → pos_part z ≤ k → neg_part z ≤ k → true ≡ within k z
unfolding within
in-range k z p q = sym (le-leb (nat_abs z) k (parts-abs z k p q))

pub range-abs : (k : ℕ) (z : ℤ) → within k z ≡ true → nat_abs z ≤ k
unfolding within
range-abs k z e = leb-true _ _ e

-- ---- a list

-- past the end too, where `get_or` gives 0
pub range_at : (k : ℕ) (s : List ℤ) → all_within k s ≡ true → (i : ℕ) → nat_abs (get_or s i (pos 0)) ≤ k
unfolding all_within
range_at k [] e i = omega arith
range_at k (z ∷ s) e zero = range-abs k z (and_left (within k z) (all_within k s) e)
range_at k (z ∷ s) e (suc i) = range_at k s (and_right (within k z) (all_within k s) e) i

-- ---- sums and differences stay near

pub sum-abs : (a b : ℤ) (k : ℕ) → nat_abs b ≤ k → nat_abs (a +ℤ b) ≤ nat_abs a + k
sum-abs (pos a) (pos b) k h = omega arith
sum-abs (pos a) (negsuc b) k h = parts-abs (sub_ℕ a (suc b)) (a + k) (omega (arith, subℕ-pos a (suc b))) (omega (arith, subℕ-neg a (suc b)))
sum-abs (negsuc a) (pos b) k h = parts-abs (sub_ℕ b (suc a)) (suc a + k) (omega (arith, subℕ-pos b (suc a))) (omega (arith, subℕ-neg b (suc a)))
sum-abs (negsuc a) (negsuc b) k h = omega arith

neg-size : (z : ℤ) → nat_abs (neg_ℤ z) ≡ nat_abs z
neg-size (pos zero) = refl
neg-size (pos (suc n)) = refl
neg-size (negsuc n) = refl

pub difference-abs : (a b : ℤ) (k : ℕ) → nat_abs b ≤ k → nat_abs (a -ℤ b) ≤ nat_abs a + k
difference-abs a b k h = sum-abs a (neg_ℤ b) k (omega (arith, neg-size b))

-- what an i64 holds
pub abs-fits : (z : ℤ) → nat_abs z < 2 ^ 63 → SFits w64 z
abs-fits z h = parts-fit z (omega (arith, pos-abs z)) (omega (arith, neg-abs z))
