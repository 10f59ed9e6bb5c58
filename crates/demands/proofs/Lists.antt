-- Lists of date-times by their places.
use Prim.Native.Nat.{ℕ, zero, suc, ◌<◌, ◌≤◌}
use mathlib.Core.Bool.{Bool, true, false, ◌||◌}
use mathlib.Core.List.{List, [], ◌∷◌}
use mathlib.Core.Path.{◌≡◌, refl}
use native.Mathlib.Omega.{arith}
use lib.Dec.{eqb}
use lib.ListN.{length, get_or}
use borrow.Author.Tests.{eqb-true, eq-eqb}
use Rattle.signed.proofs.Parts.{false-true}
use Rattle.rule.specs.Lists.{any}
use Rattle.rule.proofs.Bools.{or_right}
use Rattle.recurrence.specs.Inner.Order.{IncreasesFrom, StrictlyIncreases, among}

-- a place at which x stands
pub record StandsAt (l : List ℕ) (x : ℕ) : Type 0 where
  pub place : ℕ
  pub below : place < length l
  pub is : get_or l place 0 ≡ x

pub among-stands : (l : List ℕ) (x : ℕ) → among x l ≡ true → StandsAt l x
unfolding among any
among-stands [] x e = false-true e
among-stands (y ∷ l) x e = by (eqb y x) refl e (λ q. among-stands l x q)
  where
    by : (t : Bool) → eqb y x ≡ t → (t || any (λ (z : ℕ). eqb z x) l) ≡ true → (any (λ (z : ℕ). eqb z x) l ≡ true → StandsAt l x) → StandsAt (y ∷ l) x
    by true p q later = record { place = 0; below = omega arith; is = eqb-true y x p }
    by false p q later = let r = later q in record { place = suc r.place; below = omega (arith, r.below); is = r.is }

pub at-among : (l : List ℕ) (k : ℕ) → k < length l → among (get_or l k 0) l ≡ true
unfolding among any
at-among [] k h = absurd (omega arith)
at-among (y ∷ l) zero h = rw (eq-eqb y y refl)
at-among (y ∷ l) (suc k) h = or_right (eqb y (get_or l k 0)) (among (get_or l k 0) l) (at-among l k (omega arith))

at_least : (a : ℕ) (l : List ℕ) → IncreasesFrom a l → (k : ℕ) → k < length l → a ≤ get_or l k 0
at_least a [] r k h = absurd (omega arith)
at_least a (x ∷ l) r zero h = r.0
at_least a (x ∷ l) r (suc k) h = omega (arith, r.0, at_least (suc x) l r.1 k (omega arith))

increases-from : (a : ℕ) (l : List ℕ) → IncreasesFrom a l → (j k : ℕ) → j < k → k < length l → get_or l j 0 < get_or l k 0
increases-from a [] r j k h b = absurd (omega arith)
increases-from a (x ∷ l) r zero zero h b = absurd (omega arith)
increases-from a (x ∷ l) r zero (suc k) h b = omega (arith, at_least (suc x) l r.1 k (omega arith))
increases-from a (x ∷ l) r (suc j) zero h b = absurd (omega arith)
increases-from a (x ∷ l) r (suc j) (suc k) h b = increases-from (suc x) l r.1 j k (omega arith) (omega arith)

pub increases-at : (l : List ℕ) → StrictlyIncreases l → (j k : ℕ) → j < k → k < length l → get_or l j 0 < get_or l k 0
increases-at l r = increases-from 0 l r
