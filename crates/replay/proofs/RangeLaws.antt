-- A range by its ends, each 2^63 more than the signed instant.
use Prim.Native.Nat.{ℕ, ◌-◌, ◌%◌, ◌/◌, ◌^◌}
use mathlib.Core.Bool.{Bool}
use mathlib.Core.Path.{◌≡◌, refl, ap, ◌∙◌}
use lib.Dec.{eqb}
use lib.IntN.{ℤ}
use mir.Syntax.{w64}
use mir.Val.{SFits, to_z, of_z}
use mir.Facts.{to_z-of_z}
use Rattle.signed.proofs.Parts.{fit-neg}
use Rattle.weeks.specs.Weeks.{is_monday, weeks_in}
use Rattle.weeks.specs.Inner.Marks.{up}
use Rattle.weeks.proofs.Instants.{monday-up, weeks-up}

-- what a function of two instants answers, which are passed as the machine has them
pub both-passed : {A : Type 0} (h : ℤ → ℤ → A) {from to : ℤ} {r : A} → SFits w64 from → SFits w64 to
    → r ≡ h (to_z w64 (of_z w64 from)) (to_z w64 (of_z w64 to)) → r ≡ h from to
both-passed h f g e = rw (to_z-of_z f, to_z-of_z g) at e

pub monday-is : (t : ℤ) → SFits w64 t → (x : ℕ) (r : Bool) → x ≡ up (to_z w64 (of_z w64 t)) → r ≡ eqb (x % 604800) 55808 → r ≡ is_monday t
monday-is t f x r e g = rw (monday-up t f) (g ∙ ap (λ (n : ℕ). eqb (n % 604800) 55808) (rw (to_z-of_z f) at e))

module _ (from to : ℤ) (f : SFits w64 from) (g : SFits w64 to) (first last : ℕ) (is-first : first ≡ up from) (is_last : last ≡ up to) where
  pub weeks-are : weeks_in from to ≡ (last - first) / 604800
  weeks-are = rw (is-first, is_last) (weeks-up (2 ^ 63) from to (fit-neg from f) (fit-neg to g))

-- the same, of instants that are passed on
pub weeks_passed : (from to : ℤ) → SFits w64 from → SFits w64 to
    → weeks_in from to ≡ (up (to_z w64 (of_z w64 to)) - up (to_z w64 (of_z w64 from))) / 604800
weeks_passed from to f g = rw (to_z-of_z f, to_z-of_z g) (weeks-are from to f g (up from) (up to) refl refl)
