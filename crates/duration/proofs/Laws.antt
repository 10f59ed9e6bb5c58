-- Laws of a duration's numbers: that they are counted only so far changes no answer.
use Rattle.std.specs.Prelude.{if◌then◌else◌}
use Prim.Native.Nat.{ℕ, ◌+◌, ◌-◌, ◌*◌, ◌≤◌, ◌<◌}
use mathlib.Core.Bool.{Bool, true, false, not}
use mathlib.Core.List.{List, [], ◌∷◌}
use mathlib.Core.Path.{◌≡◌, refl, ap, sym, ◌∙◌}
use native.Mathlib.Numerals.{add-one}
use native.Mathlib.Omega.{arith}
use native.Mathlib.Decide.{dec_lt}
use lib.Dec.{eqb, ltb}
use lib.ListN.{length, get_or, take, drop, drop_of_length-le}
use lib.Seq.{drop-cons}
use borrow.Author.Tests.{lt-ltb, le-ltb, eq-eqb, ne_eqb}
use Rattle.json_text.specs.Bytes.{is_digit, past, run}
use Rattle.json_text.proofs.Laws.{past_more, past_stop}
use Rattle.digits.specs.Digits.{digit}
use Rattle.digits.specs.Fraction.{all_digits, non_zero, legal_fraction}
use Rattle.duration_grammar.specs.Letter.{upper}
use Rattle.duration.specs.Amount.{before}
use Rattle.duration.specs.Inner.Capped.{enough, capped}
use Rattle.duration.specs.Length.{no_point, limit}

pub capped-low : (n : ℕ) → n < enough → capped n ≡ n
unfolding capped
capped-low n h = rw (lt-ltb n enough h)

pub capped-high : (n : ℕ) → enough ≤ n → capped n ≡ enough
unfolding capped
capped-high n h = rw (le-ltb n enough h)

-- What `capped` says, in words that the arithmetic reads.
pub record Cap (n r : ℕ) : Type 0 where
  pub most : r ≤ n
  pub small : r ≤ enough
  pub is : r < enough → r ≡ n

pub cap-of : (n : ℕ) → Cap n (capped n)
cap-of n = by (dec_lt n enough)
  where
    by : Dec (n < enough) → Cap n (capped n)
    by (yes p) = rw (capped-low n p) (record { most = omega arith; small = omega arith; is = λ h. refl })
    by (no q) = let k : enough ≤ n = omega arith in rw (capped-high n k) (record { most = k; small = omega arith; is = λ h. absurd (omega arith) })

-- A number that grows with n may be counted from a capped n.
pub cap-any : (f : ℕ → ℕ) → ((n : ℕ) → n ≤ f n) → (n : ℕ) → capped (f (capped n)) ≡ capped (f n)
cap-any f grows n = by (dec_lt n enough)
  where
    by : Dec (n < enough) → capped (f (capped n)) ≡ capped (f n)
    by (yes p) = rw (capped-low n p)
    by (no q) =
        let k : enough ≤ n = omega arith in
        let a : enough ≤ f enough = grows enough in
        let b : enough ≤ f n = omega (arith, grows n) in
        rw (capped-high n k, capped-high (f n) b) (capped-high (f enough) a)

pub capped-before : (c n : ℕ) (l : List ℕ) → capped (before c (capped n) l) ≡ capped (before c n l)
unfolding before
capped-before c n [] = refl
capped-before c n (b ∷ l) = by (is_digit b) (eqb (upper b) c) (λ m. capped-before c m l)
  where
    by : (t u : Bool) → ((m : ℕ) → capped (before c (capped m) l) ≡ capped (before c m l))
        → capped (if t then before c (10 * capped n + digit b) l else (if u then capped n else before c 0 l))
        ≡ capped (if t then before c (10 * n + digit b) l else (if u then n else before c 0 l))
    by true u ih =
        sym (ih (10 * capped n + digit b))
        ∙ (ap (λ (k : ℕ). capped (before c k l)) (cap-any (λ k. 10 * k + digit b) (λ k. omega arith) n) ∙ ih (10 * n + digit b))
    by false true ih = cap-any (λ k. k) (λ k. omega arith) n
    by false false ih = refl

pub before-turn : (c n i : ℕ) (s : List ℕ) → i < length s
    → before c n (drop i s)
    ≡ (if is_digit (get_or s i 0) then before c (10 * n + digit (get_or s i 0)) (drop (i + 1) s) else
    if eqb (upper (get_or s i 0)) c then n else before c 0 (drop (i + 1) s))
unfolding before
before-turn c n i s h = rw (drop-cons s i 0 h, add-one)

pub before-end : (c n i : ℕ) (s : List ℕ) → length s ≤ i → before c n (drop i s) ≡ 0
unfolding before
before-end c n i s h = rw (drop_of_length-le s h)

pub capped_same : (n : ℕ) → n ≤ enough → n ≡ capped n
capped_same n h = by (dec_lt n enough)
  where
    by : Dec (n < enough) → n ≡ capped n
    by (yes p) = sym (capped-low n p)
    by (no q) = let k : enough ≤ n = omega arith in rw (capped-high n k) (omega arith)

-- The sums of days and of seconds, from capped numbers.
pub capped-days : (w d : ℕ) → capped (7 * capped w + capped d) ≡ capped (7 * w + d)
capped-days w d =
    cap-any (λ k. 7 * k + capped d) (λ k. omega arith) w ∙ cap-any (λ k. 7 * w + k) (λ k. omega arith) d

pub capped-seconds : (h m s : ℕ) → capped (3600 * capped h + 60 * capped m + capped s) ≡ capped (3600 * h + 60 * m + s)
capped-seconds h m s =
    cap-any (λ k. 3600 * k + 60 * capped m + capped s) (λ k. omega arith) h
    ∙ (cap-any (λ k. 3600 * h + 60 * k + capped s) (λ k. omega arith) m
    ∙ cap-any (λ k. 3600 * h + 60 * m + k) (λ k. omega arith) s)

-- A capped length is over the limit where the length is, and else it is the length.
pub total-over : (d s x y : ℕ) → x ≡ capped d → y ≡ capped s → limit < 86400 * x + y → limit < 86400 * d + s
total-over d s x y p q h = omega (arith, (cap-of d).most, (cap-of s).most)

pub total-reaches : (d s x y : ℕ) → x ≡ capped d → y ≡ capped s → limit ≤ 86400 * x + y → limit ≤ 86400 * d + s
total-reaches d s x y p q h = omega (arith, (cap-of d).most, (cap-of s).most)

pub total-below : (d s x y : ℕ) → x ≡ capped d → y ≡ capped s → 86400 * x + y < limit → 86400 * d + s < limit
total-below d s x y p q h =
    let e : capped d ≡ d = (cap-of d).is (omega arith) in
    let f : capped s ≡ s = (cap-of s).is (omega arith) in
    omega arith

pub days-within : (d x y : ℕ) → x ≡ capped d → 86400 * x + y ≤ limit → x ≡ d
days-within d x y p h = p ∙ (cap-of d).is (omega arith)

pub seconds-within : (s x y : ℕ) → y ≡ capped s → 86400 * x + y ≤ limit → y ≡ s
seconds-within s x y p h = p ∙ (cap-of s).is (omega arith)

-- The loop that looks for the point.
pub point-more : (s : List ℕ) (i : ℕ) → i < length s → (get_or s i 0 ≡ 0x2E → ⊥) → past no_point s (i + 1) ≡ past no_point s i
point-more s i h q = past_more no_point s i h (rw (ne_eqb _ _ q))

pub point-stop : (s : List ℕ) (i : ℕ) → get_or s i 0 ≡ 0x2E → past no_point s i ≡ i
point-stop s i e = past_stop no_point s i (rw (eq-eqb _ _ e))

pub point-end : (s : List ℕ) (i : ℕ) → length s ≤ i → past no_point s i ≡ i
unfolding past run
point-end s i h = rw (drop_of_length-le s h) (omega arith)

-- No bytes are no fraction.
pub no_fraction : (a b : ℕ) (l : List ℕ) → a < b → legal_fraction (take (a - b) l) ≡ false
unfolding legal_fraction all_digits non_zero
no_fraction a b l h = let z : a - b ≡ 0 = omega arith in rw z
