-- What the checker computes at every number below n holds at each of them: a test, and a table's entries.
use Prim.Native.Nat.{ℕ, zero, suc, ◌+◌, ◌<◌, ◌≤◌}
use mathlib.Core.Bool.{Bool, true, false}
use mathlib.Core.List.{List, [], ◌∷◌}
use mathlib.Core.Path.{◌≡◌, refl, subst, sym, ap, ◌∙◌}
use native.Mathlib.Omega.{arith}
use lib.Dec.{T, eqb, eqb→eq}
use lib.ListN.{get_or}
use borrow.Author.Tests.{eqb-false}

abbrev both : Bool → Bool → Bool
both true b = b
both false b = false

-- p holds below n; the numbers are tried from the top, with the fuel
abbrev pub all_below : (ℕ → Bool) → ℕ → Bool
all_below p zero = true
all_below p (suc n) = both (p n) (all_below p n)

left : (a b : Bool) → T (both a b) → T a
left true b t = tt
left false b t = t

right : (a b : Bool) → T (both a b) → T b
right true b t = t
right false b t = absurd t

pub all-below : (p : ℕ → Bool) (n : ℕ) → T (all_below p n) → (k : ℕ) → k < n → T (p k)
all-below p zero t k h = absurd (omega arith)
all-below p (suc n) t k h = go (eqb k n) refl (all-below p n (right (p n) (all_below p n) t) k)
  where
    go : (b : Bool) → eqb k n ≡ b → (k < n → T (p k)) → T (p k)
    go true e lower = subst (λ (m : ℕ). T (p m)) (sym (eqb→eq k n (subst T (sym e) tt))) (left (p n) (all_below p n) t)
    go false e lower = lower (omega (arith, h, eqb-false k n e))

-- f at the n numbers from i on: a constant array is such a list by computation, so no proof repeats its numbers
abbrev pub tabulate : (ℕ → ℕ) → ℕ → ℕ → List ℕ
tabulate f zero i = []
tabulate f (suc n) i = f i ∷ tabulate f n (suc i)

entry-from : (f : ℕ → ℕ) (n i k : ℕ) → k < n → get_or (tabulate f n i) k 0 ≡ f (i + k)
entry-from f zero i k h = absurd (omega arith)
entry-from f (suc n) i zero h = ap f (omega arith)
entry-from f (suc n) i (suc k) h = entry-from f n (suc i) k (omega arith) ∙ ap f (omega arith)

pub entry : (f : ℕ → ℕ) (n k : ℕ) → k < n → get_or (tabulate f n 0) k 0 ≡ f k
entry f n k h = entry-from f n 0 k h ∙ ap f (omega arith)
