-- Request 5 of 02: the statement (specs/Halving) holds of the search.
use Rattle.std.specs.Prelude.{if◌then◌else◌}
use Prim.Native.Nat.{ℕ, zero, suc}
use mathlib.Core.Bool.{Bool, true, false}
use mathlib.Core.List.{List, [], ◌∷◌}
use mathlib.Core.Path.{◌≡◌, refl, sym, ◌∙◌, ap}
use native.Mathlib.Omega.{arith}
use lib.Dec.{ltb}
use lib.IntN.{ℤ}
use lib.ListN.{length}
use Rattle.zone.specs.declared.search.Found.{Found}
use Rattle.zone.specs.Table.{valid_table}
use Rattle.zone.specs.Places.{mark_at}
use Rattle.zone.specs.Search.{middle, halve, ended, one_more, search_by, reads_by}
use Rattle.zone.specs.Halving.{AgreeAt, Halving}
use Rattle.zone.proofs.LookupLaws.{halves-end}
use Rattle.zone.proofs.SearchLaws.{at-most-half, steps-most, search-finds}

reads-steps : (n : ℕ) (f : ℕ → ℤ) (x : ℤ) (low high : ℕ) → length (reads_by n f x low high) ≡ (search_by n f x low high).steps
unfolding reads_by search_by
reads-steps zero f x low high = refl
reads-steps (suc n) f x low high =
    let s = halve x low high (f (middle low high)) in
    by (ltb low high) (reads_by n f x s.low s.high) (search_by n f x s.low s.high) (reads-steps n f x s.low s.high)
  where
    found : Bool → Found → Found
    found t r = if t then one_more r else ended low

    by : (t : Bool) (l : List ℕ) (r : Found) → length l ≡ r.steps → length (if t then middle low high ∷ l else []) ≡ (found t r).steps
    by true l r e = omega arith
    by false l r e = refl

same_by : (f g : ℕ → ℤ) (low i : ℕ) (t : Bool) (l : List ℕ) (r q : Found) → AgreeAt f g (if t then i ∷ l else []) → (f i ≡ g i → AgreeAt f g l → r ≡ q)
    → ◌≡◌ {A = Found} (if t then one_more r else ended low) (if t then one_more q else ended low)
unfolding AgreeAt
same_by f g low i true l r q a k = ap one_more (k a.0 a.1)
same_by f g low i false l r q a k = refl

reads_only : (n : ℕ) (f g : ℕ → ℤ) (x : ℤ) (low high : ℕ) → AgreeAt f g (reads_by n f x low high) → search_by n f x low high ≡ search_by n g x low high
unfolding reads_by search_by
reads_only zero f g x low high a = refl
reads_only (suc n) f g x low high a =
    let s = halve x low high (f (middle low high)) in
    same_by f g low (middle low high) (ltb low high) _ _ _ a
    (λ e rest.
    reads_only n f g x s.low s.high rest
    ∙ ap (λ (m : ℤ). search_by n g x (halve x low high m).low (halve x low high m).high) e)

pub halving : (b : ℤ) (ts ns : List ℤ) (x : ℤ) → valid_table b ts ns ≡ true → (r : Found) → r ≡ search_by 11 (mark_at b ts ns) x 0 (length ts) → Halving b ts ns x r
halving b ts ns x v r e =
    record {
      one_mark = reads-steps 11 (mark_at b ts ns) x 0 (length ts) ∙ ap (λ (f : Found). f.steps) (sym e);
      no_other = λ g a. sym (e ∙ reads_only 11 (mark_at b ts ns) g x 0 (length ts) a);
      half = at-most-half x;
      eleven = rw e (steps-most 11 (mark_at b ts ns) x 0 (length ts));
      finds = rw e (halves-end b ts ns v x _ _ (omega arith) (search-finds b ts ns v x));
    }
