-- Elements of a lent slice that are filled, with those before and after them.
use Prim.Native.Nat.{ℕ, zero, suc, ◌+◌, ◌-◌, ◌≤◌}
use mathlib.Core.List.{List, ◌∷◌, ◌++◌, append_assoc}
use mathlib.Core.Path.{◌≡◌, sym, ap, ap₂, ◌∙◌}
use native.Mathlib.Omega.{arith}
use lib.ListN.{take, drop}
use lib.Seq.{drop-drop, take_at, drop_at}
use Rattle.sheet.specs.Runs.{tabulate}
use Rattle.sheet.proofs.RunLaws.{tab-length}

module _ {A : Type 0} (f : ℕ → A) where
  -- two runs, one after the other
  tab-join : (k m n : ℕ) → tabulate f k m ++ tabulate f (k + m) n ≡ tabulate f k (m + n)
  unfolding tabulate
  tab-join k zero n =
      let a : k + 0 ≡ k = omega arith in
      let b : n ≡ 0 + n = omega arith in
      ap₂ (tabulate f) a b
  tab-join k (suc m) n =
      let a : k + suc m ≡ suc k + m = omega arith in
      let b : suc (m + n) ≡ suc m + n = omega arith in
      ap (λ (l : List A). f k ∷ l) (ap (λ (j : ℕ). tabulate f (suc k) m ++ tabulate f j n) a ∙ tab-join (suc k) m n) ∙ ap (tabulate f k) b

  -- the first i elements were filled; now those up to e are
  pub block-next : (k i e : ℕ) (lent l next : List A) → i ≤ e → l ≡ tabulate f k i ++ drop i lent
      → next ≡ take i l ++ (tabulate f (k + i) (e - i) ++ drop e l) → next ≡ tabulate f k e ++ drop e lent
  block-next k i e lent l next h is went =
      let place : i + (e - i) ≡ e = omega arith in
      let front : take i l ≡ tabulate f k i = ap (take i) is ∙ take_at (tabulate f k i) (drop i lent) i (tab-length f k i) in
      let after : drop i l ≡ drop i lent = ap (drop i) is ∙ drop_at (tabulate f k i) (drop i lent) i (tab-length f k i) in
      let later : drop e l ≡ drop e lent = ap (λ (m : ℕ). drop m l) (sym place) ∙ (sym (drop-drop (e - i) i l) ∙ (ap (drop (e - i)) after ∙ (drop-drop (e - i) i lent ∙ ap (λ (m : ℕ). drop m lent) place))) in
      went
      ∙ (ap₂ (λ (a b : List A). a ++ (tabulate f (k + i) (e - i) ++ b)) front later
      ∙ (sym (append_assoc (tabulate f k i) (tabulate f (k + i) (e - i)) (drop e lent))
      ∙ ap (λ (a : List A). a ++ drop e lent) (tab-join k i (e - i) ∙ ap (tabulate f k) place)))
