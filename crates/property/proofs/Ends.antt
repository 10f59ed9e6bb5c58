-- Where a string ends: after both its quotes, and within the text.
use Rattle.std.specs.Prelude.{if◌then◌else◌, Result, Ok, Err}
use Prim.Native.Nat.{ℕ, zero, suc, ◌+◌, ◌≤◌, ◌<◌}
use mathlib.Core.Bool.{Bool, true, false}
use mathlib.Core.List.{List}
use mathlib.Core.Path.{◌≡◌, refl}
use native.Mathlib.Omega.{arith}
use native.Mathlib.Decide.{dec_lt}
use lib.Dec.{eqb, ltb}
use lib.ListN.{length, get_or, get_or-eq_default}
use borrow.Author.Tests.{eqb-true}
use Rattle.json_text.specs.Bytes.{byte, next}
use Rattle.json_text.specs.Utf8.{is_tail, tails_at, second_at, multi_at}
use Rattle.json_text.specs.Strings.{is_hex, hex_at, is_escaped, escape_at, char_at, chars_at, string_at}
use Rattle.json_text.specs.declared.SyntaxError.{SyntaxError}
use Rattle.json_text.specs.declared.SyntaxError.TheVariants.{Malformed}

-- A byte that is not 0 lies in the text.
pub byte-in : (s : List ℕ) (i : ℕ) → 0 < get_or s i 0 → i < length s
byte-in s i h = go (dec_lt i (length s))
  where
    go : Dec (i < length s) → i < length s
    go (yes p) = p
    go (no q) =
        let r : length s ≤ i = omega arith in
        let z : get_or s i 0 ≡ 0 = get_or-eq_default s 0 r in
        absurd (omega arith)

-- A reader that began at k or after it does not end before k.
abbrev reach : ℕ → Result ℕ SyntaxError → ℕ
reach k (Ok j) = j
reach k (Err e) = k

up-choice : (k : ℕ) (c : Bool) (a b : Result ℕ SyntaxError) → k ≤ reach k a → k ≤ reach k b → k ≤ reach k (if c then a else b)
up-choice k true a b p q = p
up-choice k false a b p q = q

tails-up : (k n : ℕ) (s : List ℕ) (i : ℕ) → k ≤ i → k ≤ reach k (tails_at n s i)
unfolding tails_at
tails-up k zero s i h = h
tails-up k (suc n) s i h = up-choice k (is_tail (byte s i)) _ (Err Malformed) (tails-up k n s (i + 1) (omega arith)) (omega arith)

second-up : (low high n : ℕ) (s : List ℕ) (i : ℕ) → i ≤ reach i (second_at low high n s (i + 1))
unfolding second_at
second-up low high n s i =
    up-choice i (ltb (byte s (i + 1)) low) (Err Malformed) _ (omega arith)
    (up-choice i (ltb high (byte s (i + 1))) (Err Malformed) _ (omega arith) (tails-up i n s (i + 1 + 1) (omega arith)))

multi-up : (s : List ℕ) (i : ℕ) → i ≤ reach i (multi_at s i)
unfolding multi_at
multi-up s i =
    up-choice i (ltb (byte s i) 0xC2) (Err Malformed) _ (omega arith)
    (up-choice i (ltb (byte s i) 0xE0) _ _ (second-up 0x80 0xBF 0 s i)
    (up-choice i (eqb (byte s i) 0xE0) _ _ (second-up 0xA0 0xBF 1 s i)
    (up-choice i (ltb (byte s i) 0xED) _ _ (second-up 0x80 0xBF 1 s i)
    (up-choice i (eqb (byte s i) 0xED) _ _ (second-up 0x80 0x9F 1 s i)
    (up-choice i (ltb (byte s i) 0xF0) _ _ (second-up 0x80 0xBF 1 s i)
    (up-choice i (eqb (byte s i) 0xF0) _ _ (second-up 0x90 0xBF 2 s i)
    (up-choice i (ltb (byte s i) 0xF4) _ _ (second-up 0x80 0xBF 2 s i)
    (up-choice i (eqb (byte s i) 0xF4) _ (Err Malformed) (second-up 0x80 0x8F 2 s i) (omega arith)))))))))

hex-up : (s : List ℕ) (i : ℕ) → i ≤ reach i (hex_at s (i + 1 + 1))
unfolding hex_at
hex-up s i =
    up-choice i (is_hex (byte s (i + 1 + 1))) _ (Err Malformed)
    (up-choice i (is_hex (byte s (i + 1 + 1 + 1))) _ (Err Malformed)
    (up-choice i (is_hex (byte s (i + 1 + 1 + 2))) _ (Err Malformed)
    (up-choice i (is_hex (byte s (i + 1 + 1 + 3))) (Ok (i + 1 + 1 + 4)) (Err Malformed) (omega arith) (omega arith)) (omega arith)) (omega arith)) (omega arith)

escape-up : (s : List ℕ) (i : ℕ) → i ≤ reach i (escape_at s (i + 1))
unfolding escape_at
escape-up s i =
    up-choice i (is_escaped (byte s (i + 1))) (Ok (i + 1 + 1)) _ (omega arith)
    (up-choice i (eqb (byte s (i + 1)) 0x75) _ (Err Malformed) (hex-up s i) (omega arith))

char_up : (s : List ℕ) (i : ℕ) → i ≤ reach i (char_at s i)
unfolding char_at
char_up s i =
    up-choice i (eqb (byte s i) 0x5C) _ _ (escape-up s i)
    (up-choice i (ltb (byte s i) 0x20) (Err Malformed) _ (omega arith)
    (up-choice i (ltb (byte s i) 0x80) (Ok (i + 1)) _ (omega arith) (multi-up s i)))

-- The last byte of a string is its closing quote, which lies in the text.
chars-end : (n : ℕ) (s : List ℕ) (i j : ℕ) → chars_at n s i ≡ Ok j → (i + 1 ≤ j) × (j ≤ length s)
unfolding chars_at
chars-end zero s i j e = let z : ◌≡◌ {A = ℕ} 0 1 = cc in absurd (omega arith)
chars-end (suc n) s i j e = go (eqb (byte s i) 0x22) refl (λ k p. chars-end n s k j p) e
  where
    more : (r : Result ℕ SyntaxError) → i ≤ reach i r → ((k : ℕ) → chars_at n s k ≡ Ok j → (k + 1 ≤ j) × (j ≤ length s)) → next r (λ k. chars_at n s k) ≡ Ok j
        → (i + 1 ≤ j) × (j ≤ length s)
    more (Ok k) h rest p = let (q, w) = rest k p in (omega arith, omega arith)
    more (Err e) h rest p = let z : ◌≡◌ {A = ℕ} 0 1 = cc in absurd (omega arith)

    go : (c : Bool) → eqb (byte s i) 0x22 ≡ c → ((k : ℕ) → chars_at n s k ≡ Ok j → (k + 1 ≤ j) × (j ≤ length s))
        → (if c then Ok (i + 1) else next (char_at s i) (λ k. chars_at n s k)) ≡ Ok j → (i + 1 ≤ j) × (j ≤ length s)
    go true q rest p =
        let quote : get_or s i 0 ≡ 0x22 = eqb-true _ _ q in
        let inside : i < length s = byte-in s i (omega arith) in
        let last : i + 1 ≡ j = cc in
        (omega arith, omega arith)
    go false q rest p = more (char_at s i) (char_up s i) rest p

pub string-end : (s : List ℕ) (i j : ℕ) → string_at s i ≡ Ok j → (i + 2 ≤ j) × (j ≤ length s)
unfolding string_at
string-end s i j e = go (eqb (byte s i) 0x22) e
  where
    go : (c : Bool) → (if c then chars_at (length s) s (i + 1) else Err Malformed) ≡ Ok j → (i + 2 ≤ j) × (j ≤ length s)
    go true p = let (q, w) = chars-end (length s) s (i + 1) j p in (omega arith, omega arith)
    go false p = let z : ◌≡◌ {A = ℕ} 0 1 = cc in absurd (omega arith)
