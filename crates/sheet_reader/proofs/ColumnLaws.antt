-- A lent slice that is filled from its first element on.
use Prim.Native.Nat.{ℕ, zero, suc, ◌+◌, ◌*◌, ◌<◌}
use mathlib.Core.List.{List, [], ◌∷◌, ◌++◌}
use mathlib.Core.Path.{◌≡◌, refl, sym, ap, ◌∙◌}
use native.Mathlib.Nat.{add-zero}
use native.Mathlib.Numerals.{add-one}
use native.Mathlib.Omega.{arith}
use lib.ListN.{length, set, take}
use lib.Seq.{take-suc-set}
use Rattle.little_endian.specs.Bytes.{number_at, signed_of}
use Rattle.sheet.specs.Runs.{tabulate}
use Rattle.sheet.specs.Records.{id_at, start_at, end_at}
use Rattle.sheet.proofs.RunLaws.{tab-same}
use Rattle.sheet_reader.specs.Inner.Columns.{signed_at}

module _ {A : Type 0} (f : ℕ → A) where
  -- one element more
  tab-snoc : (k n : ℕ) → tabulate f k (suc n) ≡ tabulate f k n ++ (f (k + n) ∷ [])
  unfolding tabulate
  tab-snoc k zero = ap (λ (j : ℕ). f j ∷ []) (sym (add-zero k))
  tab-snoc k (suc n) =
      let e : suc k + n ≡ k + suc n = omega arith in
      ap (λ (l : List A). f k ∷ l) (tab-snoc (suc k) n ∙ ap (λ (j : ℕ). tabulate f (suc k) n ++ (f j ∷ [])) e)

  pub column-more : (l : List A) (k i : ℕ) → i < length l → take i l ≡ tabulate f k i → take (i + 1) (set l i (f (k + i))) ≡ tabulate f k (i + 1)
  column-more l k i h e = rw add-one (take-suc-set l i (f (k + i)) h ∙ (ap (λ (m : List A). m ++ (f (k + i) ∷ [])) e ∙ sym (tab-snoc k i)))

-- ---- the numbers by their places

pub ids-by : (s : List ℕ) (k n : ℕ) → tabulate (signed_at 0 s) k n ≡ tabulate (id_at s) k n
unfolding signed_at id_at
ids-by s k n = tab-same (signed_at 0 s) (id_at s) k n (λ j p q. ap (λ (i : ℕ). signed_of (number_at 8 i s)) (add-zero (28 * j)))

pub starts_by : (s : List ℕ) (k n : ℕ) → tabulate (signed_at 8 s) k n ≡ tabulate (start_at s) k n
unfolding signed_at start_at
starts_by s k n = tab-same (signed_at 8 s) (start_at s) k n (λ j p q. refl)

pub ends_by : (s : List ℕ) (k n : ℕ) → tabulate (signed_at 16 s) k n ≡ tabulate (end_at s) k n
unfolding signed_at end_at
ends_by s k n = tab-same (signed_at 16 s) (end_at s) k n (λ j p q. refl)
