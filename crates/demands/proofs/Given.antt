-- The first of numbered conditions that holds.
use Rattle.std.specs.Prelude.{if◌then◌else◌}
use Prim.Native.Nat.{ℕ, ◌≤◌}
use mathlib.Core.Bool.{Bool, true, false, ◌&&◌, ◌||◌}
use mathlib.Core.List.{List, [], ◌∷◌, ◌++◌}
use mathlib.Core.Logic.{⊎_elim}
use mathlib.Core.Path.{◌≡◌, refl, sym, ◌∙◌, subst}
use native.Mathlib.Omega.{arith}
use lib.Dec.{eqb}
use borrow.Author.Tests.{eqb-true, eq-eqb}
use Rattle.signed.proofs.Parts.{false-true}
use Rattle.rule.specs.Lists.{any}
use Rattle.rule.proofs.Bools.{or-either, left}
use Rattle.demands.specs.Conditions.{Numbered, applies, Given, nothing, here, later, rank, InOrder}

unfoldable pub given_by : List Numbered → ℕ
given_by [] = 0
given_by (c ∷ l) = if c.holds then c.number else given_by l

pub given_by_lem : (l : List Numbered) → Given l (given_by l)
unfolding given_by
given_by_lem [] = nothing
given_by_lem (c ∷ l) = go c.holds refl (given_by_lem l)
  where
    go : (t : Bool) → c.holds ≡ t → Given l (given_by l) → Given (c ∷ l) (if t then c.number else given_by l)
    go true e rest = here e
    go false e rest = later e rest

pub given_is : {l : List Numbered} {n : ℕ} → Given l n → n ≡ given_by l
unfolding given_by
given_is nothing = refl
given_is (here e) = rw e
given_is (later e g) = rw e (given_is g)

-- "one answer"
pub given-one : (l : List Numbered) (a b : ℕ) → Given l a → Given l b → a ≡ b
given-one l a b p q = given_is p ∙ sym (given_is q)

-- ---- lists in which no number is 0, "done"

abbrev pub Refusals : List Numbered → Type 0
Refusals [] = Unit {0}
Refusals (c ∷ l) = (eqb c.number 0 ≡ false) × Refusals l

-- of two lists the first decides, where it has a number at all
pub given-join : (k l : List Numbered) → Refusals k → given_by (k ++ l) ≡ (if eqb (given_by k) 0 then given_by l else given_by k)
unfolding given_by
given-join [] l r = refl
given-join (c ∷ k) l r = go c.holds (given-join k l r.1)
  where
    go : (t : Bool) → given_by (k ++ l) ≡ (if eqb (given_by k) 0 then given_by l else given_by k)
        → (if t then c.number else given_by (k ++ l))
        ≡ (if eqb (if t then c.number else given_by k) 0 then given_by l else (if t then c.number else given_by k))
    go true e = rw r.0
    go false e = e

-- 0 is given exactly where no condition holds
pub none-applies : (l : List Numbered) → Refusals l → given_by l ≡ 0 → (n : ℕ) → applies n l ≡ false
unfolding given_by applies any
none-applies [] r z n = refl
none-applies (c ∷ l) r z n = go c.holds refl z (λ q. none-applies l r.1 q n)
  where
    go : (t : Bool) → c.holds ≡ t → (if t then c.number else given_by l) ≡ 0
        → (given_by l ≡ 0 → any (λ (d : Numbered). eqb d.number n && d.holds) l ≡ false)
        → ((eqb c.number n && c.holds) || any (λ (d : Numbered). eqb d.number n && d.holds) l) ≡ false
    go true e q rest = false-true (sym r.0 ∙ eq-eqb c.number 0 q)
    go false e q rest = rw (e, rest q) (no (eqb c.number n))
      where
        no : (t : Bool) → ((t && false) || false) ≡ false
        no true = refl
        no false = refl

pub nothing-applies : (l : List Numbered) → ((n : ℕ) → applies n l ≡ false) → given_by l ≡ 0
unfolding given_by applies any
nothing-applies [] h = refl
nothing-applies (c ∷ l) h = go c.holds refl (nothing-applies l)
  where
    later-none : c.holds ≡ false → (n : ℕ) → any (λ (d : Numbered). eqb d.number n && d.holds) l ≡ false
    later-none e n = go (eqb c.number n) (rw e at (h n))
      where
        go : (t : Bool) → ((t && false) || any (λ (d : Numbered). eqb d.number n && d.holds) l) ≡ false
            → any (λ (d : Numbered). eqb d.number n && d.holds) l ≡ false
        go true q = q
        go false q = q

    go : (t : Bool) → c.holds ≡ t → (((n : ℕ) → any (λ (d : Numbered). eqb d.number n && d.holds) l ≡ false) → given_by l ≡ 0)
        → (if t then c.number else given_by l) ≡ 0
    go true e rest = false-true (sym (rw (e, eq-eqb c.number c.number refl) at (h c.number)))
    go false e rest = rest (later-none e)

-- ---- lists whose numbers stand in order

-- no number that applies stands before the list
above : (m : ℕ) (l : List Numbered) → InOrder m l → (n : ℕ) → applies n l ≡ true → m ≤ rank n
unfolding applies any
above m [] r n h = false-true h
above m (c ∷ l) r n h =
    ⊎_elim (λ (z : (eqb c.number n && c.holds) ≡ true). subst (λ (k : ℕ). m ≤ rank k) (eqb-true c.number n (left (eqb c.number n) c.holds z)) r.0)
    (λ (z : any (λ (d : Numbered). eqb d.number n && d.holds) l ≡ true). let later = above (rank c.number) l r.1 n z in omega (arith, r.0))
    (or-either (eqb c.number n && c.holds) (any (λ (d : Numbered). eqb d.number n && d.holds) l) h)

lowest-from : (m : ℕ) {l : List Numbered} {a : ℕ} → InOrder m l → Given l a → (n : ℕ) → applies n l ≡ true → rank a ≤ rank n
unfolding applies any
lowest-from m r nothing n h = false-true h
lowest-from m {l = c ∷ l} r (here e) n h = above (rank c.number) (c ∷ l) (omega arith, r.1) n h
lowest-from m {l = c ∷ l} r (later e g) n h = lowest-from (rank c.number) r.1 g n (go (eqb c.number n) (rw e at h))
  where
    go : (t : Bool) → ((t && false) || any (λ (d : Numbered). eqb d.number n && d.holds) l) ≡ true → any (λ (d : Numbered). eqb d.number n && d.holds) l ≡ true
    go true q = q
    go false q = q

pub given-lowest : (l : List Numbered) (a : ℕ) → InOrder 0 l → Given l a → (n : ℕ) → applies n l ≡ true → rank a ≤ rank n
given-lowest l a r g n h = lowest-from 0 r g n h
