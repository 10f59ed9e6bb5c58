-- Lists in order: what is put into one or kept of one, and that two with the same members are equal.
use Rattle.std.specs.Prelude.{if◌then◌else◌}
use Prim.Native.Nat.{ℕ, suc, ◌<◌, ◌≤◌}
use mathlib.Core.Bool.{Bool, true, false, false≢true, ◌&&◌, ◌||◌}
use mathlib.Core.List.{List, [], ◌∷◌}
use mathlib.Core.Path.{◌≡◌, refl, sym, ap, ◌∙◌, subst}
use native.Mathlib.Omega.{arith}
use native.Mathlib.Nat.{le_refl}
use lib.Dec.{eqb, ltb}
use borrow.Author.Tests.{ltb-true, ltb-false, eqb-true, eqb-false, eq-eqb, ne_eqb}
use Rattle.rule.specs.Lists.{any}
use Rattle.rule.proofs.Bools.{by, or_left, or_right}
use Rattle.recurrence.specs.Inner.Order.{IncreasesFrom, among}
use Rattle.recurrence.specs.Ids.{keep}
use Rattle.recurrence.specs.Inner.Candidates.{insert, insert_all}

pub from_less : (a b : ℕ) (l : List ℕ) → a ≤ b → IncreasesFrom b l → IncreasesFrom a l
from_less a b [] h u = tt
from_less a b (x ∷ l) h u = (omega (arith, u.0), u.1)

-- ---- insert

pub insert-increases : (a x : ℕ) (l : List ℕ) → a ≤ x → IncreasesFrom a l → IncreasesFrom a (insert x l)
unfolding insert
insert-increases a x [] h u = (h, tt)
insert-increases a x (y ∷ l) h u = go (ltb x y) (eqb x y) refl refl (insert-increases (suc y) x l)
  where
    go : (b c : Bool) → ltb x y ≡ b → eqb x y ≡ c → (suc y ≤ x → IncreasesFrom (suc y) l → IncreasesFrom (suc y) (insert x l))
        → IncreasesFrom a (if b then x ∷ y ∷ l else if c then y ∷ l else y ∷ insert x l)
    go true c e f later = (h, (ltb-true x y e, u.1))
    go false true e f later = u
    go false false e f later =
        let other = eqb-false x y f in
        let above = ltb-false x y e in
        (u.0, later (omega (arith, above, other)) u.1)

pub insert-all-increases : (xs l : List ℕ) → IncreasesFrom 0 l → IncreasesFrom 0 (insert_all xs l)
unfolding insert_all
insert-all-increases [] l u = u
insert-all-increases (x ∷ xs) l u = insert-increases 0 x (insert_all xs l) (omega arith) (insert-all-increases xs l u)

pub insert-has : (x : ℕ) (l : List ℕ) → among x (insert x l) ≡ true
unfolding insert among any
insert-has x [] = or_left (eqb x x) false (eq-eqb x x refl)
insert-has x (y ∷ l) = go (ltb x y) (eqb x y) refl (insert-has x l)
  where
    go : (b c : Bool) → eqb x y ≡ c → among x (insert x l) ≡ true
        → among x (if b then x ∷ y ∷ l else if c then y ∷ l else y ∷ insert x l) ≡ true
    go true c f later = or_left (eqb x x) (among x (y ∷ l)) (eq-eqb x x refl)
    go false true f later = or_left (eqb y x) (among x l) (eq-eqb y x (sym (eqb-true x y f)))
    go false false f later = or_right (eqb y x) (among x (insert x l)) later

pub insert-keeps : (z x : ℕ) (l : List ℕ) → among z l ≡ true → among z (insert x l) ≡ true
unfolding insert among any
insert-keeps z x [] h = or_right (eqb x z) false h
insert-keeps z x (y ∷ l) h = go (ltb x y) (eqb x y) (insert-keeps z x l)
  where
    go : (b c : Bool) → (among z l ≡ true → among z (insert x l) ≡ true)
        → among z (if b then x ∷ y ∷ l else if c then y ∷ l else y ∷ insert x l) ≡ true
    go true c later = or_right (eqb x z) (among z (y ∷ l)) h
    go false true later = h
    go false false later =
        by (eqb y z) (λ e. or_left (eqb y z) (among z (insert x l)) e)
        (λ e. or_right (eqb y z) (among z (insert x l)) (later (rw e at h)))

pub insert-all-has : (z : ℕ) (xs l : List ℕ) → among z xs ≡ true → among z (insert_all xs l) ≡ true
unfolding insert_all among any
insert-all-has z [] l h = absurd (false≢true h)
insert-all-has z (x ∷ xs) l h =
    by (eqb x z)
    (λ e. subst (λ (k : ℕ). among k (insert x (insert_all xs l)) ≡ true) (eqb-true x z e) (insert-has x (insert_all xs l)))
    (λ e. insert-keeps z x (insert_all xs l) (insert-all-has z xs l (rw e at h)))

pub insert-all-keeps : (z : ℕ) (xs l : List ℕ) → among z l ≡ true → among z (insert_all xs l) ≡ true
unfolding insert_all
insert-all-keeps z [] l h = h
insert-all-keeps z (x ∷ xs) l h = insert-keeps z x (insert_all xs l) (insert-all-keeps z xs l h)

-- ---- keep

pub keep-increases : (p : ℕ → Bool) (a : ℕ) (l : List ℕ) → IncreasesFrom a l → IncreasesFrom a (keep p l)
unfolding keep
keep-increases p a [] u = tt
keep-increases p a (x ∷ l) u = go (p x) (keep-increases p (suc x) l u.1)
  where
    go : (b : Bool) → IncreasesFrom (suc x) (keep p l) → IncreasesFrom a (if b then x ∷ keep p l else keep p l)
    go true later = (u.0, later)
    go false later = from_less a (suc x) (keep p l) (omega (arith, u.0)) later

pub keep-among : (p : ℕ → Bool) (z : ℕ) (l : List ℕ) → among z (keep p l) ≡ (p z && among z l)
unfolding keep among any
keep-among p z [] = go (p z)
  where
    go : (b : Bool) → false ≡ (b && false)
    go true = refl
    go false = refl
keep-among p z (x ∷ l) = go (p x) refl (eqb x z) refl (keep-among p z l)
  where
    go : (b : Bool) → p x ≡ b → (c : Bool) → eqb x z ≡ c → among z (keep p l) ≡ (p z && among z l)
        → among z (if b then x ∷ keep p l else keep p l) ≡ (p z && (c || among z l))
    go true e true f later =
        let same : p z ≡ true = subst (λ (k : ℕ). p k ≡ true) (eqb-true x z f) e in
        rw (f, same)
    go true e false f later = rw f later
    go false e true f later =
        let same : p z ≡ false = subst (λ (k : ℕ). p k ≡ false) (eqb-true x z f) e in
        rw same (rw same at later)
    go false e false f later = later

-- ---- two lists in order with the same members are equal

below-not-among : (a z : ℕ) (l : List ℕ) → IncreasesFrom a l → z < a → among z l ≡ false
unfolding among any
below-not-among a z [] u h = refl
below-not-among a z (x ∷ l) u h =
    let first = u.0 in
    rw (ne_eqb x z (omega (arith, first))) (below-not-among (suc x) z l u.1 (omega (arith, first)))

none-among : (x : ℕ) → false ≡ among x []
unfolding among any
none-among x = refl

pub head-among : (x : ℕ) (l : List ℕ) → among x (x ∷ l) ≡ true
unfolding among any
head-among x l = or_left (eqb x x) (among x l) (eq-eqb x x refl)

-- a head is at least the other list's head
head_first : (a x y : ℕ) (l m : List ℕ) → IncreasesFrom a (y ∷ m) → ((z : ℕ) → among z (x ∷ l) ≡ among z (y ∷ m)) → y ≤ x
head_first a x y l m u same =
    by (ltb x y)
    (λ e.
    let none = below-not-among y x (y ∷ m) (le_refl y, u.1) (ltb-true x y e) in
    absurd (false≢true (sym none ∙ (sym (same x) ∙ head-among x l))))
    (λ e. ltb-false x y e)

tail-same : (x : ℕ) (l m : List ℕ) → IncreasesFrom (suc x) l → IncreasesFrom (suc x) m → ((z : ℕ) → among z (x ∷ l) ≡ among z (x ∷ m))
    → (z : ℕ) → among z l ≡ among z m
unfolding among any
tail-same x l m u v same z =
    by (ltb x z) (λ e. rw (ne_eqb x z (omega (arith, ltb-true x z e))) at (same z))
    (λ e.
    below-not-among (suc x) z l u (omega (arith, ltb-false x z e))
    ∙ sym (below-not-among (suc x) z m v (omega (arith, ltb-false x z e))))

pub unique : (a : ℕ) (l m : List ℕ) → IncreasesFrom a l → IncreasesFrom a m → ((z : ℕ) → among z l ≡ among z m) → l ≡ m
unique a [] [] u v same = refl
unique a [] (y ∷ m) u v same = absurd (false≢true (none-among y ∙ (same y ∙ head-among y m)))
unique a (x ∷ l) [] u v same = absurd (false≢true (none-among x ∙ (sym (same x) ∙ head-among x l)))
unique a (x ∷ l) (y ∷ m) u v same =
    let e : y ≡ x = omega (arith, head_first a x y l m v same, head_first a y x m l u (λ z. sym (same z))) in
    let w : IncreasesFrom (suc x) m = subst (λ (k : ℕ). IncreasesFrom (suc k) m) e v.1 in
    let tails = unique (suc x) l m u.1 w (tail-same x l m u.1 w (λ z. same z ∙ ap (λ (k : ℕ). among z (k ∷ m)) e)) in
    ap (λ (t : List ℕ). x ∷ t) tails ∙ ap (λ (k : ℕ). k ∷ m) (sym e)
