-- Runs of plain bytes, and how a string's reader steps over one.
use Rattle.std.specs.Prelude.{if◌then◌else◌}
use Prim.Native.Nat.{ℕ, zero, suc, ◌+◌, ◌-◌, ◌≤◌, ◌<◌}
use mathlib.Core.Bool.{Bool, true, false}
use mathlib.Core.List.{List, [], ◌∷◌}
use mathlib.Core.Path.{◌≡◌, refl, sym, ◌∙◌}
use native.Mathlib.Numerals.{add-one}
use native.Mathlib.Omega.{arith}
use lib.ListN.{length, get_or, drop}
use lib.Dec.{eqb, ltb}
use Rattle.json_text.specs.Bytes.{run, past}
use Rattle.json_text.specs.Inner.Plain.{is_plain, plain_at}
use Rattle.json_text.specs.Strings.{char_at, chars_at}
use Rattle.json_text.proofs.Laws.{some, past_more, past_stop}

-- The loop of plain bytes: one turn, and no more.
pub plain_more : (s : List ℕ) (i : ℕ) → i < length s → is_plain (get_or s i 0) ≡ true → plain_at s (i + 1) ≡ plain_at s i
unfolding plain_at
plain_more s i h e = past_more is_plain s i h e

pub plain-stop : (s : List ℕ) (i : ℕ) → is_plain (get_or s i 0) ≡ false → plain_at s i ≡ i
unfolding plain_at
plain-stop s i e = past_stop is_plain s i e

pub some-plain : (b : ℕ) (r : Bool) → r ≡ is_plain b → r ≡ true → 0 < b
unfolding is_plain
some-plain b r e h = some is_plain refl b (sym e ∙ h)

-- A run does not end before it begins.
pub plain-on : (s : List ℕ) (i : ℕ) → i ≤ plain_at s i
unfolding plain_at past
plain-on s i = omega arith

-- A run that begins with a plain byte is not empty.
pub plain-some : (s : List ℕ) (i e : ℕ) → e ≡ plain_at s i → i < length s → is_plain (get_or s i 0) ≡ true → i < e
plain-some s i e q h t = omega (arith, q, plain_more s i h t, plain-on s (i + 1))

no_flag : false ≡ true → ⊥
no_flag e = let q : ◌≡◌ {A = ℕ} 0 1 = cc in omega arith

-- A test that must fail, and the tests after it.
unless : (c r : Bool) → (if c then false else r) ≡ true → (c ≡ false) × (r ≡ true)
unless true r h = absurd (no_flag h)
unless false r h = (refl, h)

-- A run of some bytes: the first one passes, and the others are the run after it.
one_more : (p : ℕ → Bool) (b : ℕ) (s : List ℕ) (k : ℕ) (c : Bool) → p b ≡ c
    → (if c then suc (run p s) else 0) ≡ suc k → (p b ≡ true) × (run p s ≡ k)
one_more p b s k true e h = (e, omega arith)
one_more p b s k false e h = absurd (omega arith)

run_more : (p : ℕ → Bool) (s : List ℕ) (i k : ℕ) → run p (drop i s) ≡ suc k
    → (p (get_or s i 0) ≡ true) × (run p (drop (suc i) s) ≡ k)
unfolding run
run_more p [] zero k h = absurd (omega arith)
run_more p [] (suc i) k h = absurd (omega arith)
run_more p (b ∷ s) zero k h = one_more p b s k (p b) refl h
run_more p (b ∷ s) (suc i) k h = run_more p s i k h

-- What a plain byte is not.
plain-tests : (b : ℕ) → is_plain b ≡ true
    → (eqb b 0x22 ≡ false) × ((eqb b 0x5C ≡ false) × ((ltb b 0x20 ≡ false) × (ltb b 0x80 ≡ true)))
unfolding is_plain
plain-tests b h =
    let q = unless (eqb b 0x22) (if eqb b 0x5C then false else if ltb b 0x20 then false else ltb b 0x80) h in
    let e = unless (eqb b 0x5C) (if ltb b 0x20 then false else ltb b 0x80) q.1 in
    (q.0, (e.0, unless (ltb b 0x20) (ltb b 0x80) e.1))

-- A plain byte is a char.
char-plain : (n : ℕ) (s : List ℕ) (i : ℕ) → is_plain (get_or s i 0) ≡ true → chars_at (suc n) s i ≡ chars_at n s (suc i)
unfolding chars_at char_at
char-plain n s i h =
    let t = plain-tests (get_or s i 0) h in
    rw (t.0, t.1.0, t.1.1.0, t.1.1.1, add-one)

-- The chars of a run, one by one.
skip_by : (k n m : ℕ) (s : List ℕ) (i j : ℕ) → run is_plain (drop i s) ≡ k → n ≡ k + m → j ≡ k + i → chars_at n s i ≡ chars_at m s j
skip_by zero n m s i j e a b =
    let p : n ≡ m = omega arith in
    let q : j ≡ i = omega arith in
    rw (p, q)
skip_by (suc k) zero m s i j e a b = absurd (omega arith)
skip_by (suc k) (suc n) m s i j e a b =
    let t = run_more is_plain s i k e in
    char-plain n s i t.0 ∙ skip_by k n m s (suc i) j t.1 (omega arith) (omega arith)

-- A run of plain bytes is stepped over at once.
pub chars-skip : (s : List ℕ) (i e n : ℕ) → e ≡ plain_at s i → e - i < n → chars_at n s i ≡ chars_at (n - (e - i)) s e
unfolding plain_at past
chars-skip s i e n q h =
    skip_by (run is_plain (drop i s)) n (n - (e - i)) s i e refl (omega arith) (omega arith)
