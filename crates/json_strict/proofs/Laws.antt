-- Laws of the pass over escapes: one step, and its end.
use Rattle.std.specs.Prelude.{if◌then◌else◌, Ok}
use Prim.Native.Nat.{ℕ, zero, suc, ◌+◌, ◌-◌, ◌≤◌, ◌<◌}
use mathlib.Core.List.{List}
use mathlib.Core.Path.{◌≡◌, refl}
use native.Mathlib.Numerals.{sub-one}
use native.Mathlib.Omega.{arith}
use lib.Dec.{leb}
use lib.ListN.{length}
use Rattle.json_text.specs.Bytes.{next}
use Rattle.json_strict.specs.Surrogates.{escaped_at, pairs_at}

pairs-step : (n : ℕ) → 0 < n → (s : List ℕ) (i : ℕ) → pairs_at n s i ≡ (if leb (length s) i then Ok i else next (escaped_at s i) (λ j. pairs_at (n - 1) s j))
unfolding pairs_at
pairs-step zero h s i = absurd (omega arith)
pairs-step (suc n) h s i = rw sub-one

pairs-none : (n : ℕ) → n ≤ 0 → (s : List ℕ) (i : ℕ) → pairs_at n s i ≡ Ok i
unfolding pairs_at
pairs-none zero h s i = refl
pairs-none (suc n) h s i = absurd (omega arith)

-- The loop that counts up to n: a turn of it after k turns, and its end.
pub pairs-turn : (n k : ℕ) → k < n → (s : List ℕ) (i : ℕ) → pairs_at (n - k) s i ≡ (if leb (length s) i then Ok i else next (escaped_at s i) (λ j. pairs_at (n - (k + 1)) s j))
pairs-turn n k h s i = let e : n - k - 1 ≡ n - (k + 1) = omega arith in rw (pairs-step (n - k) (omega arith) s i, e)

pub pairs-over : (n k : ℕ) → n ≤ k → (s : List ℕ) (i : ℕ) → pairs_at (n - k) s i ≡ Ok i
pairs-over n k h = pairs-none (n - k) (omega arith)
