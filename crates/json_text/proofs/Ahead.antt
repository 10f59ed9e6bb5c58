-- What a reader of a char reads lies ahead, so a string is read by its place alone: as many chars as the text has bytes left are enough.
use Rattle.std.specs.Prelude.{if◌then◌else◌, Result, Ok, Err}
use Prim.Native.Nat.{ℕ, zero, suc, ◌+◌, ◌-◌, ◌≤◌, ◌<◌}
use mathlib.Core.Bool.{Bool, true, false}
use mathlib.Core.List.{List}
use mathlib.Core.Path.{◌≡◌, refl, ap, sym, ◌∙◌}
use native.Mathlib.Decide.{dec_lt}
use native.Mathlib.Omega.{arith}
use borrow.Author.Tests.{eq-eqb}
use lib.ListN.{length, get_or, get_or-eq_default}
use lib.Dec.{eqb, ltb}
use Rattle.json_text.specs.Bytes.{byte, next}
use Rattle.json_text.specs.Inner.Plain.{is_plain, plain_at}
use Rattle.json_text.specs.Utf8.{is_tail, tails_at, second_at, multi_at}
use Rattle.json_text.specs.Strings.{is_hex, hex_at, is_escaped, escape_at, char_at, chars_at}
use Rattle.json_text.specs.declared.SyntaxError.{SyntaxError}
use Rattle.json_text.specs.declared.SyntaxError.TheVariants.{Malformed}
use Rattle.json_text.proofs.Laws.{chars-step, chars-none}
use Rattle.json_text.proofs.Blocks.{plain-front}
use Rattle.json_text.proofs.Skip.{chars-skip}

-- Where a reader reads to a place, that lies after k.
abbrev After : ℕ → Result ℕ SyntaxError → Type 0
After k r = (j : ℕ) → r ≡ Ok j → k < j

reads : (k i : ℕ) → k < i → After k (Ok i)
reads k i h j e = let q : i ≡ j = cc in omega arith

fails : (k : ℕ) → After k (Err Malformed)
fails k j e = cc

choice : (k : ℕ) (c : Bool) (a b : Result ℕ SyntaxError) → After k a → After k b → After k (if c then a else b)
choice k true a b p q = p
choice k false a b p q = q

tails-after : (n : ℕ) (s : List ℕ) (i k : ℕ) → k < i → After k (tails_at n s i)
unfolding tails_at
tails-after zero s i k h = reads k i h
tails-after (suc n) s i k h = choice k (is_tail (byte s i)) _ _ (tails-after n s (i + 1) k (omega arith)) (fails k)

second-after : (low high n : ℕ) (s : List ℕ) (i k : ℕ) → k < i → After k (second_at low high n s i)
unfolding second_at
second-after low high n s i k h =
    choice k (ltb (byte s i) low) _ _ (fails k)
    (choice k (ltb high (byte s i)) _ _ (fails k) (tails-after n s (i + 1) k (omega arith)))

multi-after : (s : List ℕ) (i : ℕ) → After i (multi_at s i)
unfolding multi_at
multi-after s i =
    let second : (low high n : ℕ) → After i (second_at low high n s (i + 1)) = λ low high n. second-after low high n s (i + 1) i (omega arith) in
    choice i (ltb (byte s i) 0xC2) _ _ (fails i)
    (choice i (ltb (byte s i) 0xE0) _ _ (second 0x80 0xBF 0)
    (choice i (eqb (byte s i) 0xE0) _ _ (second 0xA0 0xBF 1)
    (choice i (ltb (byte s i) 0xED) _ _ (second 0x80 0xBF 1)
    (choice i (eqb (byte s i) 0xED) _ _ (second 0x80 0x9F 1)
    (choice i (ltb (byte s i) 0xF0) _ _ (second 0x80 0xBF 1)
    (choice i (eqb (byte s i) 0xF0) _ _ (second 0x90 0xBF 2)
    (choice i (ltb (byte s i) 0xF4) _ _ (second 0x80 0xBF 2)
    (choice i (eqb (byte s i) 0xF4) _ _ (second 0x80 0x8F 2) (fails i)))))))))

hex-after : (s : List ℕ) (i k : ℕ) → k < i → After k (hex_at s i)
unfolding hex_at
hex-after s i k h =
    choice k (is_hex (byte s i)) _ _
    (choice k (is_hex (byte s (i + 1))) _ _
    (choice k (is_hex (byte s (i + 2))) _ _
    (choice k (is_hex (byte s (i + 3))) _ _ (reads k (i + 4) (omega arith)) (fails k)) (fails k)) (fails k)) (fails k)

escape-after : (s : List ℕ) (i k : ℕ) → k < i → After k (escape_at s i)
unfolding escape_at
escape-after s i k h =
    choice k (is_escaped (byte s i)) _ _ (reads k (i + 1) (omega arith))
    (choice k (eqb (byte s i) 0x75) _ _ (hex-after s (i + 1) k (omega arith)) (fails k))

pub char-after : (s : List ℕ) (i : ℕ) → After i (char_at s i)
unfolding char_at
char-after s i =
    choice i (eqb (byte s i) 0x5C) _ _ (escape-after s (i + 1) i (omega arith))
    (choice i (ltb (byte s i) 0x20) _ _ (fails i)
    (choice i (ltb (byte s i) 0x80) _ _ (reads i (i + 1) (omega arith)) (multi-after s i)))

-- Past the end there is no char.
chars-past : (n : ℕ) (s : List ℕ) (i : ℕ) → length s ≤ i → chars_at n s i ≡ Err Malformed
unfolding chars_at char_at
chars-past zero s i h = refl
chars-past (suc n) s i h = rw (get_or-eq_default s 0 h)

next-same : (r : Result ℕ SyntaxError) (f g : ℕ → Result ℕ SyntaxError) → ((j : ℕ) → r ≡ Ok j → f j ≡ g j) → next r f ≡ next r g
next-same (Ok j) f g h = h j refl
next-same (Err e) f g h = refl

pub chars-enough : (n m : ℕ) (s : List ℕ) (i : ℕ) → length s ≤ n + i → length s ≤ m + i → chars_at n s i ≡ chars_at m s i
unfolding chars_at
chars-enough zero m s i p q = sym (chars-past m s i (omega arith))
chars-enough (suc n) zero s i p q = chars-past (suc n) s i (omega arith)
chars-enough (suc n) (suc m) s i p q =
    ap (λ (r : Result ℕ SyntaxError). if eqb (byte s i) 0x22 then Ok (i + 1) else r)
    (next-same (char_at s i) _ _ (λ j e. let h : i < j = char-after s i j e in chars-enough n m s j (omega arith) (omega arith)))

-- What is left of a string at a place: a run of plain bytes, its end, a char or none.
pub rest-run : (s : List ℕ) (i e : ℕ) → i < length s → e ≡ plain_at s i → chars_at (length s - i) s i ≡ chars_at (length s - e) s e
rest-run s i e h q =
    chars-enough (length s - i) (length s + e) s i (omega arith) (omega arith)
    ∙ chars-skip s i e (length s + e) q (omega arith)
    ∙ chars-enough (length s + e - (e - i)) (length s - e) s e (omega arith) (omega arith)

pub rest-quote : (s : List ℕ) (i : ℕ) → i < length s → eqb (get_or s i 0) 0x22 ≡ true → chars_at (length s - i) s i ≡ Ok (i + 1)
rest-quote s i h c = rw (chars-step (length s - i) (omega arith) s i, c)

pub rest-char : (s : List ℕ) (i j : ℕ) → i < length s → eqb (get_or s i 0) 0x22 ≡ false → char_at s i ≡ Ok j → chars_at (length s - i) s i ≡ chars_at (length s - j) s j
rest-char s i j h c r =
    let k : i < j = char-after s i j r in
    rw (chars-step (length s - i) (omega arith) s i, c, r) (chars-enough (length s - i - 1) (length s - j) s j (omega arith) (omega arith))

pub rest-wrong : (s : List ℕ) (i : ℕ) (e : SyntaxError) → i < length s → eqb (get_or s i 0) 0x22 ≡ false → char_at s i ≡ Err e → chars_at (length s - i) s i ≡ Err e
rest-wrong s i e h c r = rw (chars-step (length s - i) (omega arith) s i, c, r)

pub rest-none : (s : List ℕ) (i : ℕ) → length s ≤ i → chars_at (length s - i) s i ≡ Err Malformed
rest-none s i h = chars-none (length s - i) (omega arith) s i

-- A quote lies in the text.
quote-within : (s : List ℕ) (i : ℕ) → get_or s i 0 ≡ 0x22 → i < length s
quote-within s i e = go (dec_lt i (length s))
  where
    go : Dec (i < length s) → i < length s
    go (yes p) = p
    go (no p) = let z : get_or s i 0 ≡ 0 = get_or-eq_default s 0 (omega arith) in absurd (omega arith)

-- What is left of a string at a quote and at a plain byte, where tests and places stand as the reader has them.
pub turn_quote : (s : List ℕ) (i : ℕ) → get_or s i 0 ≡ 0x22 → chars_at (length s - i) s i ≡ Ok (i + 1)
turn_quote s i e = rest-quote s i (quote-within s i e) (eq-eqb _ _ e)

pub turn_run : (s : List ℕ) (i : ℕ) → i < length s → is_plain (get_or s i 0) ≡ true
    → chars_at (length s - i) s i ≡ chars_at (length s - plain_at s (i + 1)) s (plain_at s (i + 1))
turn_run s i h c = rest-run s i (plain_at s (i + 1)) h (plain-front s i (plain_at s (i + 1)) refl h c)

pub ruleset turns = (turn_quote, turn_run)
