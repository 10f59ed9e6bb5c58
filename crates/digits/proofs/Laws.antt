-- Laws of fractions: a last digit that is not 0 says that there is one, and that it is non-zero, too.
use Rattle.std.specs.Prelude.{if◌then◌else◌, ◌&&◌}
use Rattle.std.specs.List.{list_all}
use Prim.Native.Nat.{ℕ, ◌-◌, ◌≤◌, ◌<◌}
use mathlib.Core.Bool.{Bool, true, false}
use mathlib.Core.List.{List, [], ◌∷◌}
use mathlib.Core.Path.{◌≡◌, refl, sym, ◌∙◌}
use native.Mathlib.Omega.{arith}
use lib.Dec.{eqb}
use lib.ListN.{length, get_or}
use borrow.Author.Tests.{eqb-true, eq-eqb, ne_eqb}
use Rattle.json_text.specs.Bytes.{is_digit}
use Rattle.digits.specs.Fraction.{all_digits, non_zero, last_of, ends_in_zero, legal_fraction}

all-digits : (l : List ℕ) → list_all is_digit l ≡ all_digits l
unfolding all_digits
all-digits [] = refl
all-digits (b ∷ l) = by (all-digits l) (is_digit b)
  where
    by : list_all is_digit l ≡ all_digits l → (t : Bool) → (t && list_all is_digit l) ≡ (if t then all_digits l else false)
    by ih true = ih
    by ih false = refl

last-here : (b : ℕ) (l : List ℕ) → get_or (b ∷ l) (length l) 0 ≡ last_of b l
unfolding last_of
last-here b [] = refl
last-here b (d ∷ l) = last-here d l

last-at : (b : ℕ) (l : List ℕ) → get_or (b ∷ l) (length (b ∷ l) - 1) 0 ≡ last_of b l
last-at b l = let e : length (b ∷ l) - 1 ≡ length l = omega arith in rw e (last-here b l)

-- Where no digit but 0 was found, the last one is 0.
zero-last : (l : List ℕ) → non_zero l ≡ false → last_of 0x30 l ≡ 0x30
unfolding non_zero last_of
zero-last [] e = refl
zero-last (b ∷ l) e = by (zero-last l) (eqb b 0x30) refl e
  where
    by : (non_zero l ≡ false → last_of 0x30 l ≡ 0x30) → (t : Bool) → eqb b 0x30 ≡ t → (if t then non_zero l else true) ≡ false → last_of b l ≡ 0x30
    by ih true p q = rw (eqb-true b 0x30 p) (ih q)
    by ih false p q = let z : ◌≡◌ {A = ℕ} 0 1 = cc in absurd (omega arith)

pub legal-none : (l : List ℕ) → length l < 1 → false ≡ legal_fraction l
unfolding legal_fraction non_zero all_digits
legal-none [] h = refl
legal-none (b ∷ l) h = absurd (omega arith)

neither : (c d : Bool) → (if c then (if d then false else false) else false) ≡ false
neither true true = refl
neither true false = refl
neither false d = refl

pub legal-zero : (l : List ℕ) → 1 ≤ length l → get_or l (length l - 1) 0 ≡ 0x30 → legal_fraction l ≡ false
unfolding legal_fraction ends_in_zero
legal-zero [] h e = absurd (omega arith)
legal-zero (b ∷ l) h e = rw (eq-eqb _ _ (sym (last-at b l) ∙ e)) (neither (all_digits (b ∷ l)) (non_zero (b ∷ l)))

pub legal-last : (l : List ℕ) → 1 ≤ length l → (get_or l (length l - 1) 0 ≡ 0x30 → ⊥) → list_all is_digit l ≡ legal_fraction l
unfolding legal_fraction ends_in_zero
legal-last [] h n = absurd (omega arith)
legal-last (b ∷ l) h n = all-digits (b ∷ l) ∙ rw (ne_eqb _ _ apart) (by (non_zero (b ∷ l)) refl (all_digits (b ∷ l)))
  where
    apart : last_of b l ≡ 0x30 → ⊥
    apart e = n (last-at b l ∙ e)

    by : (t : Bool) → non_zero (b ∷ l) ≡ t → (d : Bool) → d ≡ (if d then (if t then true else false) else false)
    by true p true = refl
    by false p true = absurd (apart (unfold last_of in zero-last (b ∷ l) p))
    by t p false = refl
