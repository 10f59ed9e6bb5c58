-- Laws of the definitions of values: one turn of a loop, and one level.
use Rattle.std.proofs.Common.{Result, Ok, Err}
use Prim.Native.Nat.{ℕ, zero, suc, ◌+◌, ◌-◌, ◌≤◌, ◌<◌}
use mathlib.Core.List.{List}
use mathlib.Core.Path.{◌≡◌, refl}
use native.Mathlib.Numerals.{sub-one}
use native.Mathlib.Omega.{arith}
use lib.ListN.{length}
use Rattle.json_text.specs.Bytes.{next}
use Rattle.json_text.specs.declared.SyntaxError.{SyntaxError}
use Rattle.json_text.specs.declared.SyntaxError.TheVariants.{Malformed, TooDeep}
use Rattle.json_value.specs.Values.{after_at, first_at, name_at, next_item, elements_at, members_at, array_of, object_of, value_of, value_at}
use Rattle.json_value.specs.Inner.Groups.{array_at, object_at}

pub elements-step : (n : ℕ) → 0 < n → (value : ℕ → Result ℕ SyntaxError) (s : List ℕ) (i : ℕ)
    → elements_at value n s i ≡ next (value i) (λ j. next_item (after_at 0x5D s j) (λ k. elements_at value (n - 1) s k))
unfolding elements_at
elements-step zero h value s i = absurd (omega arith)
elements-step (suc n) h value s i = rw sub-one

pub elements-none : (n : ℕ) → n ≤ 0 → (value : ℕ → Result ℕ SyntaxError) (s : List ℕ) (i : ℕ) → elements_at value n s i ≡ Err Malformed
unfolding elements_at
elements-none zero h value s i = refl
elements-none (suc n) h value s i = absurd (omega arith)

pub members_step : (n : ℕ) → 0 < n → (value : ℕ → Result ℕ SyntaxError) (s : List ℕ) (i : ℕ)
    → members_at value n s i ≡ next (name_at s i) (λ v. next (value v) (λ j. next_item (after_at 0x7D s j) (λ k. members_at value (n - 1) s k)))
unfolding members_at
members_step zero h value s i = absurd (omega arith)
members_step (suc n) h value s i = rw sub-one

pub members-none : (n : ℕ) → n ≤ 0 → (value : ℕ → Result ℕ SyntaxError) (s : List ℕ) (i : ℕ) → members_at value n s i ≡ Err Malformed
unfolding members_at
members-none zero h value s i = refl
members-none (suc n) h value s i = absurd (omega arith)

-- A level is left: the bracket opens it.
pub array-step : (l : ℕ) → (l ≡ 0 → ⊥) → (s : List ℕ) (i : ℕ)
    → array_at l s i ≡ next_item (Ok (first_at 0x5D s (i + 1))) (λ k. elements_at (λ v. value_at (l - 1) s v) (length s) s k)
unfolding array_at array_of
array-step zero h s i = absurd (h refl)
array-step (suc l) h s i = rw sub-one

pub object-step : (l : ℕ) → (l ≡ 0 → ⊥) → (s : List ℕ) (i : ℕ)
    → object_at l s i ≡ next_item (Ok (first_at 0x7D s (i + 1))) (λ k. members_at (λ v. value_at (l - 1) s v) (length s) s k)
unfolding object_at object_of
object-step zero h s i = absurd (h refl)
object-step (suc l) h s i = rw sub-one

-- No level is left.
pub array-none : (l : ℕ) → l ≡ 0 → (s : List ℕ) (i : ℕ) → array_at l s i ≡ Err TooDeep
unfolding array_at
array-none l e s i = rw e

pub object-none : (l : ℕ) → l ≡ 0 → (s : List ℕ) (i : ℕ) → object_at l s i ≡ Err TooDeep
unfolding object_at
object-none l e s i = rw e

-- A value by its first byte.
pub value-step : (l : ℕ) (s : List ℕ) (i : ℕ) → value_at l s i ≡ value_of (λ k. object_at l s k) (λ k. array_at l s k) s i
unfolding value_at array_at object_at
value-step zero s i = refl
value-step (suc l) s i = refl
