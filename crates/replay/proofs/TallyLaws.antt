-- One turn of the loop that counts places, and the class of a place.
use Rattle.std.specs.Prelude.{if◌then◌else◌}
use Prim.Native.Nat.{ℕ, zero, suc, ◌+◌, ◌-◌, ◌^◌, ◌<◌, ◌≤◌}
use mathlib.Core.List.{List}
use mathlib.Core.Bool.{Bool, true, false, cond}
use Rattle.std.specs.List.{count_by}
use Rattle.std.proofs.lemmas.List.Recursion.{is_count_by}
use mathlib.Core.Path.{◌≡◌, refl}
use native.Mathlib.Omega.{arith}
use native.Mathlib.Numerals.{add-one}
use lib.ListN.{length, get_or, drop, drop_of_length-le}
use lib.Seq.{drop-cons}
use lib.IntN.{ℤ, pos, negsuc}
use lib.Signed.{lt_z}
use mir.Syntax.{w64}
use mir.Val.{SFits, to_z, of_z}
use mir.Facts.{to_z-of_z}
use borrow.Author.Tests.{ltb-true}
use Rattle.signed.proofs.Parts.{true-false, false-true, fit-pos, fit-neg}
use Rattle.weeks.specs.Inner.Places.{class_of}
use Rattle.weeks.specs.Weeks.{count}

pick : (b : Bool) (n : ℕ) → (if b then 1 else 0) + n ≡ cond b (1 + n) n
pick true n = refl
pick false n = omega arith

-- `count` is the library's `count_by`
pub counted : (f : ℤ → Bool) (p : List ℤ) → count f p ≡ count_by f p
unfolding count
counted f p = is_count_by (count f) f refl (λ z l. pick (f z) (count f l)) p

pub count_turn : (f : ℤ → Bool) (p : List ℤ) (i : ℕ) → i < length p → (if f (get_or p i (pos 0)) then 1 else 0) + count f (drop (i + 1) p) ≡ count f (drop i p)
unfolding count
count_turn f p i h = rw (add-one i, drop-cons p i (pos 0) h)

pub count-done : (f : ℤ → Bool) (p : List ℤ) (i : ℕ) → length p ≤ i → count f (drop i p) ≡ 0
unfolding count
count-done f p i h = rw (drop_of_length-le p {i = i} h)

pub one-most : (b : Bool) → (if b then 1 else 0) ≤ 1
one-most true = omega arith
one-most false = omega arith

-- ---- the class of a place

missing : (z : ℤ) → lt_z z (negsuc 0) ≡ true → 2 ≡ class_of z
unfolding class_of
missing (pos n) e = false-true e
missing (negsuc zero) e = absurd (omega (arith, ltb-true 0 0 e))
missing (negsuc (suc n)) e = refl

shut : (z : ℤ) → SFits w64 z → of_z w64 z ≡ 2 ^ 64 - 1 → 1 ≡ class_of z
unfolding class_of
shut (pos n) f e = absurd (omega (arith, fit-pos (pos n) f, e))
shut (negsuc zero) f e = refl
shut (negsuc (suc n)) f e = absurd (omega (arith, fit-neg (negsuc (suc n)) f, e))

reported : (z : ℤ) → lt_z z (pos 0) ≡ false → 0 ≡ class_of z
unfolding class_of
reported (pos n) e = refl
reported (negsuc n) e = true-false e

module _ (z : ℤ) (f : SFits w64 z) where
  pub class-missing : lt_z (to_z w64 (of_z w64 z)) (negsuc 0) ≡ true → 2 ≡ class_of z
  class-missing e = missing z (rw (to_z-of_z f) at e)

  pub class-shut : of_z w64 z ≡ 2 ^ 64 - 1 → 1 ≡ class_of z
  class-shut e = shut z f e

  pub class-reported : lt_z (to_z w64 (of_z w64 z)) (pos 0) ≡ false → 0 ≡ class_of z
  class-reported e = reported z (rw (to_z-of_z f) at e)
