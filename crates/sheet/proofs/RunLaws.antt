-- Laws of `every` and `tabulate`.
use Prim.Native.Nat.{ℕ, zero, suc, ◌+◌, ◌-◌, ◌<◌, ◌≤◌, min}
use mathlib.Core.Bool.{Bool, true, false}
use mathlib.Core.List.{List, ◌∷◌, map}
use mathlib.Core.Path.{◌≡◌, refl, sym, ap, ap₂, ◌∙◌}
use native.Mathlib.Omega.{arith}
use native.Mathlib.Numerals.{add-one, sub-one}
use lib.Dec.{ltb}
use lib.ListN.{length, get_or, set, take, drop, drop_of_length-le}
use lib.Seq.{drop-cons}
use borrow.Author.Tests.{ltb-true, ltb-false}
use Rattle.rule.proofs.Bools.{by, left, right}
use Rattle.sheet.specs.Runs.{tabulate, every}

-- ---- every

pub every-all : (p : ℕ → Bool) (k n : ℕ) → ((j : ℕ) → k ≤ j → j < k + n → p j ≡ true) → every p k n ≡ true
unfolding every
every-all p k zero h = refl
every-all p k (suc n) h = rw (h k (omega arith) (omega arith)) (every-all p (suc k) n (λ j a b. h j (omega arith) (omega arith)))

-- j is k or past it
first-or : (p : ℕ → Bool) (k j : ℕ) → k ≤ j → p k ≡ true → (k < j → p j ≡ true) → p j ≡ true
first-or p k j a here past =
    by (ltb k j)
    (λ f. past (ltb-true k j f))
    (λ f.
    let g = ltb-false k j f in
    let same : j ≡ k = omega arith in
    rw same here)

pub every-at : (p : ℕ → Bool) (k n : ℕ) → every p k n ≡ true → (j : ℕ) → k ≤ j → j < k + n → p j ≡ true
unfolding every
every-at p k zero e j a b = absurd (omega arith)
every-at p k (suc n) e j a b =
    first-or p k j a (left (p k) (every p (suc k) n) e) (λ g. every-at p (suc k) n (right (p k) (every p (suc k) n) e) j g (omega arith))

-- ---- one turn of a loop over `every`

pub every_more : (p : ℕ → Bool) (k n : ℕ) → 0 < n → p k ≡ true → every p (k + 1) (n - 1) ≡ every p k n
unfolding every
every_more p k zero h e = absurd (omega arith)
every_more p k (suc n) h e = rw (add-one, sub-one, e)

pub every-fails : (p : ℕ → Bool) (k n : ℕ) → 0 < n → p k ≡ false → false ≡ every p k n
unfolding every
every-fails p k zero h e = absurd (omega arith)
every-fails p k (suc n) h e = rw e

pub every-none : (p : ℕ → Bool) (k n : ℕ) → n ≤ 0 → true ≡ every p k n
unfolding every
every-none p k zero h = refl
every-none p k (suc n) h = absurd (omega arith)

-- ---- tabulate

module _ {A : Type 0} where
  pub tab-length : (f : ℕ → A) (k n : ℕ) → length (tabulate f k n) ≡ n
  unfolding tabulate
  tab-length f k zero = refl
  tab-length f k (suc n) = ap suc (tab-length f (suc k) n)

  pub tab-same : (f g : ℕ → A) (k n : ℕ) → ((j : ℕ) → k ≤ j → j < k + n → f j ≡ g j) → tabulate f k n ≡ tabulate g k n
  unfolding tabulate
  tab-same f g k zero h = refl
  tab-same f g k (suc n) h = rw (h k (omega arith) (omega arith), tab-same f g (suc k) n (λ j p q. h j (omega arith) (omega arith)))

  pub tab-at : (f : ℕ → A) (k n j : ℕ) (d : A) → j < n → get_or (tabulate f k n) j d ≡ f (k + j)
  unfolding tabulate
  tab-at f k zero j d h = absurd (omega arith)
  tab-at f k (suc n) zero d h = ap f (omega arith)
  tab-at f k (suc n) (suc j) d h =
      let e : suc k + j ≡ k + suc j = omega arith in
      tab-at f (suc k) n j d (omega arith) ∙ ap f e

  pub tab-set : (f g : ℕ → A) (k n j : ℕ) (v : A) → (j < n → g (k + j) ≡ v) → ((i : ℕ) → (i ≡ k + j → ⊥) → g i ≡ f i) → set (tabulate f k n) j v ≡ tabulate g k n
  unfolding tabulate
  tab-set f g k zero j v h o = refl
  tab-set f g k (suc n) zero v h o =
      let e : k + 0 ≡ k = omega arith in
      let here : g k ≡ v = ap g (sym e) ∙ h (omega arith) in
      rw (here, tab-same g f (suc k) n (λ i p q. o i (λ r. omega arith)))
  tab-set f g k (suc n) (suc j) v h o =
      let e : suc k + j ≡ k + suc j = omega arith in
      rw (o k (λ r. omega arith), tab-set f g (suc k) n j v (λ p. ap g e ∙ h (omega arith)) (λ i p. o i (λ r. p (omega arith))))

  pub tab-take : (f : ℕ → A) (k n m : ℕ) → take m (tabulate f k n) ≡ tabulate f k (min m n)
  unfolding tabulate
  tab-take f k n zero = let e : 0 ≡ min 0 n = omega arith in ap (tabulate f k) e
  tab-take f k zero (suc m) = let e : 0 ≡ min (suc m) 0 = omega arith in ap (tabulate f k) e
  tab-take f k (suc n) (suc m) =
      let e : suc (min m n) ≡ min (suc m) (suc n) = omega arith in
      ap (λ (l : List A). f k ∷ l) (tab-take f (suc k) n m) ∙ ap (tabulate f k) e

  pub tab-past : (f : ℕ → A) (k n j : ℕ) → drop j (tabulate f k n) ≡ tabulate f (k + j) (n - j)
  unfolding tabulate
  tab-past f k n zero =
      let a : k ≡ k + 0 = omega arith in
      let b : n ≡ n - 0 = omega arith in
      ap₂ (tabulate f) a b
  tab-past f k zero (suc j) = let b : 0 ≡ 0 - suc j = omega arith in ap (tabulate f (k + suc j)) b
  tab-past f k (suc n) (suc j) =
      let a : suc k + j ≡ k + suc j = omega arith in
      let b : n - j ≡ suc n - suc j = omega arith in
      tab-past f (suc k) n j ∙ ap₂ (tabulate f) a b

  -- a list is the run of its elements
  pub tab-drop : (f : ℕ → A) (l : List A) (d : A) (k n : ℕ) → k + n ≡ length l → ((j : ℕ) → j < length l → f j ≡ get_or l j d) → tabulate f k n ≡ drop k l
  unfolding tabulate
  tab-drop f l d k zero h e = sym (drop_of_length-le l {i = k} (omega arith))
  tab-drop f l d k (suc n) h e =
      let x : k < length l = omega arith in
      rw (e k x, tab-drop f l d (suc k) n (omega arith) e) (sym (drop-cons l k d x))

pub tab-map : {A B : Type 0} (g : A → B) (f : ℕ → A) (k n : ℕ) → map g (tabulate f k n) ≡ tabulate (λ i. g (f i)) k n
unfolding tabulate
tab-map g f k zero = refl
tab-map g f k (suc n) = rw (tab-map g f (suc k) n)
