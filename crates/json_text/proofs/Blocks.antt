-- Blocks of plain bytes: one byte more, and the run that goes on after them.
use Prim.Native.Nat.{ℕ, zero, suc, ◌+◌, ◌≤◌, ◌<◌}
use mathlib.Core.Bool.{true}
use mathlib.Core.List.{List}
use mathlib.Core.Path.{◌≡◌, ap, ◌∙◌}
use native.Mathlib.Omega.{arith}
use borrow.Author.Count.{below_more}
use borrow.Author.Tests.{ne_eqb, le-ltb, lt-ltb}
use lib.ListN.{length, get_or}
use Rattle.json_text.specs.Inner.Plain.{is_plain, plain_at, PlainRun}
use Rattle.json_text.proofs.Skip.{plain_more}

pub is-plain : (b : ℕ) → (b ≡ 0x22 → ⊥) → (b ≡ 0x5C → ⊥) → 0x20 ≤ b → b < 0x80 → is_plain b ≡ true
unfolding is_plain
is-plain b q e l h = rw (ne_eqb _ _ q, ne_eqb _ _ e, le-ltb _ _ l, lt-ltb _ _ h)

pub run_none : (s : List ℕ) (i : ℕ) → PlainRun s i 0
unfolding PlainRun
run_none s i k h = absurd (omega arith)

pub run_more : (s : List ℕ) (i n : ℕ) → PlainRun s i n → is_plain (get_or s (i + n) 0) ≡ true → PlainRun s i (n + 1)
unfolding PlainRun
run_more s i n h b = below_more _ _ h b

-- After so many plain bytes the run ends where it ends.
pub run_on : (n : ℕ) (s : List ℕ) (i : ℕ) → PlainRun s i n → i + n ≤ length s → plain_at s (i + n) ≡ plain_at s i
unfolding PlainRun
run_on zero s i h p = let e : i + 0 ≡ i = omega arith in ap (plain_at s) e
run_on (suc n) s i h p =
    let e : i + suc n ≡ i + n + 1 = omega arith in
    ap (plain_at s) e ∙ plain_more s (i + n) (omega arith) (h n (omega arith)) ∙ run_on n s i (λ k q. h k (omega arith)) (omega arith)

-- A run that begins with a plain byte is the run after it.
pub plain-front : (s : List ℕ) (i e : ℕ) → e ≡ plain_at s (i + 1) → i < length s → is_plain (get_or s i 0) ≡ true → e ≡ plain_at s i
plain-front s i e q h t = q ∙ plain_more s i h t
