-- Laws of texts without the escape of a surrogate: one place more, and the pass over their escapes, each of which it passes.
use Rattle.std.specs.Prelude.{if◌then◌else◌, Result, Ok, Err, is_ok}
use Prim.Native.Nat.{ℕ, zero, suc, ◌+◌, ◌-◌, ◌*◌, ◌≤◌, ◌<◌}
use mathlib.Core.Bool.{Bool, true, false}
use mathlib.Core.List.{List}
use mathlib.Core.Path.{◌≡◌, refl, sym}
use native.Mathlib.Decide.{dec_lt}
use native.Mathlib.Omega.{arith}
use borrow.Author.Tests.{ltb-false, leb-true, eqb-false}
use lib.Dec.{eqb, ltb, leb}
use lib.ListN.{length, get_or, get_or-eq_default}
use Rattle.json_text.specs.Bytes.{byte, space_at, next}
use Rattle.json_text.specs.declared.SyntaxError.{SyntaxError}
use Rattle.json_value.specs.Values.{levels}
use Rattle.json_names.specs.Inner.Names.{fault_at}
use Rattle.json_strict.specs.Answer.{paired_answer}
use Rattle.json_strict.proofs.Faulted.{text-tree}
use Rattle.json_strict.specs.Inner.Slashes.{differ, lacks_d, is_d, front, NoFront}
use Rattle.json_strict.specs.Surrogates.{hex_value, unit_at, is_first, is_second, pair_at, escaped_at, pairs_at}

pub not-both : {P : Type 0} → false ≡ true → P
not-both e = let z : ◌≡◌ {A = ℕ} 0 1 = cc in absurd (omega arith)

-- Three bytes of which one differs begin no such escape.
pub no_front : (a b c : ℕ) → (differ a 0x5C + differ b 0x75 + lacks_d c ≡ 0 → ⊥) → front a b c ≡ false
unfolding differ lacks_d front is_d
no_front a b c h = go (eqb a 0x5C) (eqb b 0x75) (eqb c 0x44) (eqb c 0x64) h
  where
    go : (x y u v : Bool) → ((if x then 0 else 1) + (if y then 0 else 1) + (if u then 0 else (if v then 0 else 1)) ≡ 0 → ⊥) → (if x then (if y then (if u then true else v) else false) else false) ≡ false
    go true true true v h = absurd (h refl)
    go true true false true h = absurd (h refl)
    go true true false false h = refl
    go true false u v h = refl
    go false y u v h = refl

pub free-none : (s : List ℕ) → NoFront s 2
unfolding NoFront
free-none s k h = absurd (omega arith)

pub free_more : (s : List ℕ) (i : ℕ) → 2 ≤ i → NoFront s i → front (get_or s (i - 2) 0) (get_or s (i - 1) 0) (get_or s i 0) ≡ false → NoFront s (i + 1)
unfolding NoFront
free_more s i p h f k q = go (dec_lt (k + 2) i)
  where
    go : Dec (k + 2 < i) → front (get_or s k 0) (get_or s (k + 1) 0) (get_or s (k + 2) 0) ≡ false
    go (yes r) = h k r
    go (no r) =
        let e : k + 2 ≡ i = omega arith in
        let d : k + 1 ≡ i - 1 = omega arith in
        let z : k ≡ i - 2 = omega arith in
        rw (e, d, z) f

pub free_all : (s : List ℕ) (i : ℕ) → length s ≤ i → NoFront s i → NoFront s (length s)
unfolding NoFront
free_all s i p h k q = h k (omega arith)

-- A hexadecimal digit is at most 15, and 13 only as a D.
hex-small : (b : ℕ) → hex_value b ≤ 15
unfolding hex_value
hex-small b = go (ltb b 0x30) refl (leb b 0x39) refl (ltb b 0x41) refl (leb b 0x46) refl (ltb b 0x61) refl (leb b 0x66) refl
  where
    go : (t : Bool) → ltb b 0x30 ≡ t → (u : Bool) → leb b 0x39 ≡ u → (v : Bool) → ltb b 0x41 ≡ v → (w : Bool) → leb b 0x46 ≡ w → (x : Bool) → ltb b 0x61 ≡ x → (y : Bool) → leb b 0x66 ≡ y
        → (if t then 0 else if u then b - 0x30 else if v then 0 else if w then b - 0x37 else if x then 0 else if y then b - 0x57 else 0) ≤ 15
    go true d u e v f w g x h y i = omega arith
    go false d true e v f w g x h y i = let q : b ≤ 0x39 = leb-true _ _ e in omega arith
    go false d false e true f w g x h y i = omega arith
    go false d false e false f true g x h y i = let q : b ≤ 0x46 = leb-true _ _ g in omega arith
    go false d false e false f false g true h y i = omega arith
    go false d false e false f false g false h true i = let q : b ≤ 0x66 = leb-true _ _ i in omega arith
    go false d false e false f false g false h false i = omega arith

hex-other : (b : ℕ) → (b ≡ 0x44 → ⊥) → (b ≡ 0x64 → ⊥) → hex_value b ≡ 13 → ⊥
unfolding hex_value
hex-other b m n = go (ltb b 0x30) refl (leb b 0x39) refl (ltb b 0x41) refl (leb b 0x46) refl (ltb b 0x61) refl (leb b 0x66) refl
  where
    go : (t : Bool) → ltb b 0x30 ≡ t → (u : Bool) → leb b 0x39 ≡ u → (v : Bool) → ltb b 0x41 ≡ v → (w : Bool) → leb b 0x46 ≡ w → (x : Bool) → ltb b 0x61 ≡ x → (y : Bool) → leb b 0x66 ≡ y
        → (if t then 0 else if u then b - 0x30 else if v then 0 else if w then b - 0x37 else if x then 0 else if y then b - 0x57 else 0) ≡ 13 → ⊥
    go true d u e v f w g x h y i z = omega arith
    go false d true e v f w g x h y i z = let q : b ≤ 0x39 = leb-true _ _ e in omega arith
    go false d false e true f w g x h y i z = omega arith
    go false d false e false f true g x h y i z = m (omega arith)
    go false d false e false f false g true h y i z = omega arith
    go false d false e false f false g false h true i z = n (omega arith)
    go false d false e false f false g false h false i z = omega arith

hex-no-d : (b : ℕ) → is_d b ≡ false → hex_value b ≡ 13 → ⊥
unfolding is_d
hex-no-d b h = go (eqb b 0x44) refl (eqb b 0x64) refl h
  where
    go : (x : Bool) → eqb b 0x44 ≡ x → (y : Bool) → eqb b 0x64 ≡ y → (if x then true else y) ≡ false → hex_value b ≡ 13 → ⊥
    go true d y e f = not-both (sym f)
    go false d true e f = not-both (sym f)
    go false d false e f = hex-other b (eqb-false _ _ d) (eqb-false _ _ e)

-- A number whose first digit is not D is no surrogate.
no_second : (u : ℕ) → (0xD800 ≤ u → u ≤ 0xDFFF → ⊥) → is_second u ≡ false
unfolding is_second
no_second u h = go (ltb u 0xDC00) refl (leb u 0xDFFF) refl
  where
    go : (x : Bool) → ltb u 0xDC00 ≡ x → (y : Bool) → leb u 0xDFFF ≡ y → (if x then false else y) ≡ false
    go true d y e = refl
    go false d false e = refl
    go false d true e = let q : 0xDC00 ≤ u = ltb-false _ _ d in absurd (h (omega arith) (leb-true _ _ e))

no-first : (u : ℕ) → (0xD800 ≤ u → u ≤ 0xDFFF → ⊥) → is_first u ≡ false
unfolding is_first
no-first u h = go (ltb u 0xD800) refl (leb u 0xDBFF) refl
  where
    go : (x : Bool) → ltb u 0xD800 ≡ x → (y : Bool) → leb u 0xDBFF ≡ y → (if x then false else y) ≡ false
    go true d y e = refl
    go false d false e = refl
    go false d true e = let q : u ≤ 0xDBFF = leb-true _ _ e in absurd (h (ltb-false _ _ d) (omega arith))

outside : (a b c d : ℕ) → a ≤ 15 → b ≤ 15 → c ≤ 15 → d ≤ 15 → (a ≡ 13 → ⊥) → 0xD800 ≤ ((a * 16 + b) * 16 + c) * 16 + d → ((a * 16 + b) * 16 + c) * 16 + d ≤ 0xDFFF → ⊥
outside a b c d p q r t n l m = n (omega arith)

unit-outside : (s : List ℕ) (i : ℕ) → is_d (byte s i) ≡ false → 0xD800 ≤ unit_at s i → unit_at s i ≤ 0xDFFF → ⊥
unfolding unit_at
unit-outside s i h = outside _ _ _ _ (hex-small (byte s i)) (hex-small (byte s (i + 1))) (hex-small (byte s (i + 2))) (hex-small (byte s (i + 3))) (hex-no-d (byte s i) h)

-- The escape of another char is passed.
pair-plain : (s : List ℕ) (i : ℕ) → is_d (byte s (i + 2)) ≡ false → is_ok (pair_at s i) ≡ true
unfolding pair_at
pair-plain s i h = rw (no_second (unit_at s (i + 2)) (unit-outside s (i + 2) h), no-first (unit_at s (i + 2)) (unit-outside s (i + 2) h))

zero-is-none : is_d 0 ≡ false
unfolding is_d
zero-is-none = refl

-- After a backslash and a u there is no D; past the end of the text each byte is 0.
behind : (s : List ℕ) → NoFront s (length s) → (i : ℕ) → eqb (byte s i) 0x5C ≡ true → eqb (byte s (i + 1)) 0x75 ≡ true → is_d (byte s (i + 2)) ≡ false
unfolding NoFront front
behind s h i a b = go (dec_lt (i + 2) (length s))
  where
    past : byte s (i + 2) ≡ 0 → is_d (byte s (i + 2)) ≡ false
    past e = rw e zero-is-none

    here : (x y z : Bool) → x ≡ true → y ≡ true → (if x then (if y then z else false) else false) ≡ false → z ≡ false
    here x y z p q e = rw (p, q) at e

    go : Dec (i + 2 < length s) → is_d (byte s (i + 2)) ≡ false
    go (yes p) = here _ _ _ a b (h i p)
    go (no p) = past (get_or-eq_default s 0 (omega arith))

escaped-to : (s : List ℕ) → NoFront s (length s) → (i : ℕ) → is_ok (escaped_at s i) ≡ true
unfolding escaped_at
escaped-to s h i = go (eqb (byte s i) 0x5C) refl (eqb (byte s (i + 1)) 0x75) refl
  where
    go : (x : Bool) → eqb (byte s i) 0x5C ≡ x → (y : Bool) → eqb (byte s (i + 1)) 0x75 ≡ y → is_ok (if x then (if y then pair_at s i else Ok (i + 2)) else Ok (i + 1)) ≡ true
    go true d true e = pair-plain s i (behind s h i d e)
    go true d false e = refl
    go false d y e = refl

next-to : (r : Result ℕ SyntaxError) (f : ℕ → Result ℕ SyntaxError) → is_ok r ≡ true → ((j : ℕ) → is_ok (f j) ≡ true) → is_ok (next r f) ≡ true
next-to (Ok j) f p q = q j
next-to (Err e) f p q = not-both p

free-from : (s : List ℕ) → NoFront s (length s) → (n i : ℕ) → is_ok (pairs_at n s i) ≡ true
unfolding pairs_at
free-from s h zero i = refl
free-from s h (suc n) i = go (leb (length s) i) (λ j. free-from s h n j)
  where
    go : (x : Bool) → ((j : ℕ) → is_ok (pairs_at n s j) ≡ true) → is_ok (if x then Ok i else next (escaped_at s i) (λ j. pairs_at n s j)) ≡ true
    go true r = refl
    go false r = next-to (escaped_at s i) (λ j. pairs_at n s j) (escaped-to s h i) r

pub free-pairs : (s : List ℕ) → NoFront s (length s) → true ≡ is_ok (pairs_at (length s) s 0)
free-pairs s h = sym (free-from s h (length s) 0)

-- The answer asks no more of a pass over escapes.
pub paired-answer : (s : List ℕ) (r : Result ℕ SyntaxError) → paired_answer s r ≡ (if is_ok r then (if fault_at levels s (space_at s 0) then 4 else 0) else 3)
unfolding paired_answer
paired-answer s (Ok i) = rw (text-tree s)
paired-answer s (Err e) = refl
