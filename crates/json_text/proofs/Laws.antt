-- Laws on tests of bytes and runs of bytes, which the readers' proofs cite.
use Rattle.std.specs.Prelude.{if◌then◌else◌, Ok, Err}
use Prim.Native.Nat.{ℕ, zero, suc, ◌+◌, ◌-◌, ◌≤◌, ◌<◌}
use mathlib.Core.Bool.{Bool, true, false}
use mathlib.Core.List.{List, [], ◌∷◌}
use mathlib.Core.Path.{◌≡◌, refl, sym, ◌∙◌}
use native.Mathlib.Numerals.{add-one, sub-one}
use native.Mathlib.Omega.{arith}
use lib.ListN.{length, get_or, drop}
use lib.Dec.{eqb}
use lib.Seq.{drop-cons}
use Rattle.json_text.specs.Bytes.{next, run, past, is_space, is_digit, space_at, digits_at}
use Rattle.json_text.specs.Utf8.{is_tail, tails_at}
use Rattle.json_text.specs.Strings.{is_hex, is_escaped, char_at, chars_at}
use Rattle.json_text.specs.declared.SyntaxError.TheVariants.{Malformed}

-- A test that 0 does not pass is passed by no place past the end.
pub some : (p : ℕ → Bool) → p 0 ≡ false → (b : ℕ) → p b ≡ true → 0 < b
some p z zero h = let w : false ≡ true = sym z ∙ h in absurd (absurd-flag w)
  where
    absurd-flag : false ≡ true → ⊥
    absurd-flag e = let q : ◌≡◌ {A = ℕ} 0 1 = cc in omega arith
some p z (suc b) h = omega arith

-- A byte that passes: the run goes on after it.
pub past_more : (p : ℕ → Bool) (s : List ℕ) (i : ℕ) → i < length s → p (get_or s i 0) ≡ true → past p s (i + 1) ≡ past p s i
unfolding past run
past_more p s i h e = rw (drop-cons s i 0 h, e, add-one) (omega arith)

-- A byte that does not pass: the run ends.
run-stop : (p : ℕ → Bool) (s : List ℕ) (i : ℕ) → p (get_or s i 0) ≡ false → run p (drop i s) ≡ 0
unfolding run
run-stop p [] zero e = refl
run-stop p [] (suc i) e = refl
run-stop p (b ∷ s) zero e = rw e
run-stop p (b ∷ s) (suc i) e = run-stop p s i e

pub past_stop : (p : ℕ → Bool) (s : List ℕ) (i : ℕ) → p (get_or s i 0) ≡ false → past p s i ≡ i
unfolding past
past_stop p s i e = rw (run-stop p s i e) (omega arith)

-- The loops of white space and digits: one turn, and no more.
pub space-more : (s : List ℕ) (i : ℕ) → i < length s → is_space (get_or s i 0) ≡ true → space_at s (i + 1) ≡ space_at s i
unfolding space_at
space-more s i h e = past_more is_space s i h e

pub space-stop : (s : List ℕ) (i : ℕ) → is_space (get_or s i 0) ≡ false → space_at s i ≡ i
unfolding space_at
space-stop s i e = past_stop is_space s i e

pub digits_more : (s : List ℕ) (i : ℕ) → i < length s → is_digit (get_or s i 0) ≡ true → digits_at s (i + 1) ≡ digits_at s i
unfolding digits_at
digits_more s i h e = past_more is_digit s i h e

pub digits-stop : (s : List ℕ) (i : ℕ) → is_digit (get_or s i 0) ≡ false → digits_at s i ≡ i
unfolding digits_at
digits-stop s i e = past_stop is_digit s i e

-- No test of a byte is passed by 0, so what passes lies in the text.
pub some-space : (b : ℕ) (r : Bool) → r ≡ is_space b → r ≡ true → 0 < b
unfolding is_space
some-space b r e h = some is_space refl b (sym e ∙ h)

pub some-digit : (b : ℕ) (r : Bool) → r ≡ is_digit b → r ≡ true → 0 < b
unfolding is_digit
some-digit b r e h = some is_digit refl b (sym e ∙ h)

pub some-tail : (b : ℕ) (r : Bool) → r ≡ is_tail b → r ≡ true → 0 < b
unfolding is_tail
some-tail b r e h = some is_tail refl b (sym e ∙ h)

-- The loop of tail bytes.
tails-step : (n : ℕ) → 0 < n → (s : List ℕ) (i : ℕ) → tails_at n s i ≡ (if is_tail (get_or s i 0) then tails_at (n - 1) s (i + 1) else Err Malformed)
unfolding tails_at
tails-step zero h s i = absurd (omega arith)
tails-step (suc n) h s i = rw sub-one

tails-none : (n : ℕ) → n ≤ 0 → (s : List ℕ) (i : ℕ) → tails_at n s i ≡ Ok i
unfolding tails_at
tails-none zero h s i = refl
tails-none (suc n) h s i = absurd (omega arith)

-- The same where the loop counts up to n: a turn of it after k turns, and its end.
pub tails-turn : (n k : ℕ) → k < n → (s : List ℕ) (i : ℕ) → tails_at (n - k) s i ≡ (if is_tail (get_or s i 0) then tails_at (n - (k + 1)) s (i + 1) else Err Malformed)
tails-turn n k h s i = let e : n - k - 1 ≡ n - (k + 1) = omega arith in rw (tails-step (n - k) (omega arith) s i, e)

pub tails-over : (n k : ℕ) → n ≤ k → (s : List ℕ) (i : ℕ) → tails_at (n - k) s i ≡ Ok i
tails-over n k h = tails-none (n - k) (omega arith)

pub some-hex : (b : ℕ) (r : Bool) → r ≡ is_hex b → r ≡ true → 0 < b
unfolding is_hex is_digit
some-hex b r e h = some is_hex refl b (sym e ∙ h)

pub some-escaped : (b : ℕ) (r : Bool) → r ≡ is_escaped b → r ≡ true → 0 < b
unfolding is_escaped
some-escaped b r e h = some is_escaped refl b (sym e ∙ h)

-- The loop of a string's chars.
pub chars-step : (n : ℕ) → 0 < n → (s : List ℕ) (i : ℕ)
    → chars_at n s i ≡ (if eqb (get_or s i 0) 0x22 then Ok (i + 1) else next (char_at s i) (λ j. chars_at (n - 1) s j))
unfolding chars_at
chars-step zero h s i = absurd (omega arith)
chars-step (suc n) h s i = rw sub-one

pub chars-none : (n : ℕ) → n ≤ 0 → (s : List ℕ) (i : ℕ) → chars_at n s i ≡ Err Malformed
unfolding chars_at
chars-none zero h s i = refl
chars-none (suc n) h s i = absurd (omega arith)
