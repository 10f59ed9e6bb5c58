-- Laws of `lower` and `first`: which fault decides does not depend on how the list was put together.
use Rattle.std.specs.Prelude.{if◌then◌else◌}
use Prim.Native.Nat.{ℕ, ◌≤◌, ◌<◌}
use mathlib.Core.Bool.{Bool, true, false}
use mathlib.Core.List.{List, [], ◌∷◌, ◌++◌, map}
use mathlib.Core.Path.{◌≡◌, refl, sym, ap, ◌∙◌}
use native.Mathlib.Omega.{arith}
use lib.Dec.{eqb, ltb, leb}
use borrow.Author.Tests.{eqb-true, lt-ltb, le-ltb, le-leb, ltb-true, ltb-false, leb-true, leb-false}
use Rattle.signed.proofs.Parts.{false-true}
use Rattle.std.specs.Prelude.{Some, None}
use Rattle.fault.specs.declared.Fault.{Fault}
use Rattle.fault.specs.Fault.{First, a_fault, faults_at, all_of, order, decides, lower, first}

-- ---- the order

-- Why the fault n at p comes before m at q, or is the same.
pub data Comes (n p m q : ℕ) : Type 0 where
  by_order : order n < order m → Comes n p m q
  by_place : order n ≡ order m → p < q → Comes n p m q
  by_number : order n ≡ order m → p ≡ q → n ≤ m → Comes n p m q

module _ (n p m q : ℕ) where
  sorted : (a b c d : Bool) → ltb (order n) (order m) ≡ a → ltb (order m) (order n) ≡ b → ltb p q ≡ c → ltb q p ≡ d
      → (if a then true else if b then false else if c then true else if d then false else leb n m) ≡ true → Comes n p m q
  sorted true b c d e f g h t = by_order (ltb-true _ _ e)
  sorted false true c d e f g h t = false-true t
  sorted false false true d e f g h t = by_place (omega (arith, ltb-false (order n) (order m) e, ltb-false (order m) (order n) f)) (ltb-true _ _ g)
  sorted false false false true e f g h t = false-true t
  sorted false false false false e f g h t =
      by_number (omega (arith, ltb-false (order n) (order m) e, ltb-false (order m) (order n) f)) (omega (arith, ltb-false p q g, ltb-false q p h)) (leb-true _ _ t)

  pub comes : decides n p m q ≡ true → Comes n p m q
  unfolding decides
  comes t = sorted _ _ _ _ refl refl refl refl t

  turned : (a b c d : Bool) → ltb (order n) (order m) ≡ a → ltb (order m) (order n) ≡ b → ltb p q ≡ c → ltb q p ≡ d
      → (if a then true else if b then false else if c then true else if d then false else leb n m) ≡ false → Comes m q n p
  turned true b c d e f g h t = false-true (sym t)
  turned false true c d e f g h t = by_order (ltb-true _ _ f)
  turned false false true d e f g h t = false-true (sym t)
  turned false false false true e f g h t = by_place (omega (arith, ltb-false (order n) (order m) e, ltb-false (order m) (order n) f)) (ltb-true _ _ h)
  turned false false false false e f g h t =
      let k : m < n = leb-false _ _ t in
      by_number (omega (arith, ltb-false (order n) (order m) e, ltb-false (order m) (order n) f)) (omega (arith, ltb-false p q g, ltb-false q p h)) (omega arith)

  pub later : decides n p m q ≡ false → Comes m q n p
  unfolding decides
  later t = turned _ _ _ _ refl refl refl refl t

  -- and back
  pub told : Comes n p m q → decides n p m q ≡ true
  unfolding decides
  told (by_order h) = rw (lt-ltb _ _ h)
  told (by_place e h) = rw (le-ltb (order n) (order m) (omega arith), le-ltb (order m) (order n) (omega arith), lt-ltb _ _ h)
  told (by_number e f h) =
      rw (le-ltb (order n) (order m) (omega arith), le-ltb (order m) (order n) (omega arith), le-ltb p q (omega arith), le-ltb q p (omega arith), le-leb _ _ h)

pub through : (n p m q k r : ℕ) → Comes n p m q → Comes m q k r → Comes n p k r
through n p m q k r (by_order h) (by_order j) = by_order (omega arith)
through n p m q k r (by_order h) (by_place e j) = by_order (omega arith)
through n p m q k r (by_order h) (by_number e f j) = by_order (omega arith)
through n p m q k r (by_place e h) (by_order j) = by_order (omega arith)
through n p m q k r (by_place e h) (by_place f j) = by_place (e ∙ f) (omega arith)
through n p m q k r (by_place e h) (by_number f g j) = by_place (e ∙ f) (omega arith)
through n p m q k r (by_number e f h) (by_order j) = by_order (omega arith)
through n p m q k r (by_number e f h) (by_place g j) = by_place (e ∙ g) (omega arith)
through n p m q k r (by_number e f h) (by_number g i j) = by_number (e ∙ g) (f ∙ i) (omega arith)

alike : (n p m q : ℕ) → n ≡ m → p ≡ q → Some (a_fault n p) ≡ Some (a_fault m q)
alike n p m q e f = λ i. Some (a_fault (e i) (f i))

same-one : (n p m q : ℕ) → Comes n p m q → Comes m q n p → Some (a_fault n p) ≡ Some (a_fault m q)
same-one n p m q (by_order h) (by_order k) = absurd (omega arith)
same-one n p m q (by_order h) (by_place e k) = absurd (omega arith)
same-one n p m q (by_order h) (by_number e f k) = absurd (omega arith)
same-one n p m q (by_place e h) (by_order k) = absurd (omega arith)
same-one n p m q (by_place e h) (by_place f k) = absurd (omega arith)
same-one n p m q (by_place e h) (by_number f g k) = absurd (omega arith)
same-one n p m q (by_number e f h) (by_order k) = absurd (omega arith)
same-one n p m q (by_number e f h) (by_place g k) = absurd (omega arith)
same-one n p m q (by_number e f h) (by_number g i j) = alike n p m q (omega arith) f

-- ---- of two and three

pub lower-none : (a : First) → lower a None ≡ a
unfolding lower
lower-none None = refl
lower-none (Some f) = refl

pub none-lower : (b : First) → lower None b ≡ b
unfolding lower
none-lower b = refl

module _ (n p m q : ℕ) where
  lower-left : decides n p m q ≡ true → lower (Some (a_fault n p)) (Some (a_fault m q)) ≡ Some (a_fault n p)
  unfolding lower
  lower-left t = rw t

  lower-right : decides n p m q ≡ false → lower (Some (a_fault n p)) (Some (a_fault m q)) ≡ Some (a_fault m q)
  unfolding lower
  lower-right t = rw t

module _ (n p m q k r : ℕ) where
  three : (t u : Bool) → decides n p m q ≡ t → decides m q k r ≡ u → lower (Some (a_fault n p)) (lower (Some (a_fault m q)) (Some (a_fault k r))) ≡ lower (lower (Some (a_fault n p)) (Some (a_fault m q))) (Some (a_fault k r))
  three true true e f =
      rw (lower-left m q k r f, lower-left n p m q e) (sym (lower-left n p k r (told n p k r (through n p m q k r (comes n p m q e) (comes m q k r f)))))
  three true false e f = rw (lower-right m q k r f, lower-left n p m q e)
  three false true e f = rw (lower-left m q k r f, lower-right n p m q e) (sym (lower-left m q k r f))
  three false false e f = rw (lower-right m q k r f, lower-right n p m q e) (last (decides n p k r) refl ∙ sym (lower-right m q k r f))
    where
      last : (v : Bool) → decides n p k r ≡ v → lower (Some (a_fault n p)) (Some (a_fault k r)) ≡ Some (a_fault k r)
      last true g = lower-left n p k r g ∙ same-one n p k r (comes n p k r g) (through k r m q n p (later m q k r f) (later n p m q e))
      last false g = lower-right n p k r g

pub lower-assoc : (a b c : First) → lower a (lower b c) ≡ lower (lower a b) c
lower-assoc None b c = rw (none-lower b, none-lower (lower b c))
lower-assoc (Some f) None c = rw (none-lower c, lower-none (Some f))
lower-assoc (Some f) (Some g) None = rw (lower-none (Some g), lower-none (lower (Some f) (Some g)))
lower-assoc (Some f) (Some g) (Some h) = three f.number f.place g.number g.place h.number h.place _ _ refl refl

-- A join is none only where both are.
abbrev is_none : First → Bool
is_none None = true
is_none (Some f) = false

pub lower-zero : (a b : First) → lower a b ≡ None → (a ≡ None) × (b ≡ None)
unfolding lower
lower-zero None b e = (refl, e)
lower-zero (Some f) None e = false-true (ap is_none e)
lower-zero (Some f) (Some g) e = go (decides f.number f.place g.number g.place) e
  where
    go : (t : Bool) → (if t then Some f else Some g) ≡ None → (Some f ≡ None) × (Some g ≡ None)
    go true z = false-true (ap is_none z)
    go false z = false-true (ap is_none z)

-- ---- of a list

pub first-append : (l m : List Fault) → first (l ++ m) ≡ lower (first l) (first m)
unfolding first
first-append [] m = sym (none-lower (first m))
first-append (f ∷ l) m = rw (first-append l m) (lower-assoc (Some f) (first l) (first m))

-- Nothing decides only of a list without faults; and parts of such a list have none.
pub first-none : (l : List Fault) → first l ≡ None → l ≡ []
unfolding first
first-none [] e = refl
first-none (f ∷ l) e = false-true (ap is_none (lower-zero (Some f) (first l) e).0)

is_empty : List Fault → Bool
is_empty [] = true
is_empty (f ∷ l) = false

pub append-none : (l m : List Fault) → l ++ m ≡ [] → (l ≡ []) × (m ≡ [])
append-none [] m e = (refl, e)
append-none (f ∷ l) m e = false-true (unfold is_empty in ap is_empty e)

-- Of parts, the one that decides is that of the parts' own.
abbrev pub lowest : List First → First
lowest [] = None
lowest (a ∷ []) = a
lowest (a ∷ b ∷ l) = lower a (lowest (b ∷ l))

pub first-all : (parts : List (List Fault)) → first (all_of parts) ≡ lowest (map first parts)
unfolding all_of
first-all [] = unfold first in refl
first-all (a ∷ []) = first-append a [] ∙ (unfold first in lower-none (first a))
first-all (a ∷ b ∷ l) = first-append a (all_of (b ∷ l)) ∙ ap (lower (first a)) (first-all (b ∷ l))

-- Parts of a whole without faults have none.
abbrev pub Without : List (List Fault) → Type 0
Without [] = Unit {0}
Without (part ∷ parts) = (part ≡ []) × Without parts

pub all_none : (parts : List (List Fault)) → all_of parts ≡ [] → Without parts
unfolding all_of
all_none [] e = tt
all_none (part ∷ parts) e = let p = append-none part (all_of parts) e in (p.0, all_none parts p.1)

-- A number that is not 0 is a fault.
pub fault-some : (n p : ℕ) → eqb n 0 ≡ false → faults_at n p ≡ [] → ⊥
unfolding faults_at is_empty
fault-some n p h e = false-true (ap is_empty (rw h at e))

-- A value without a fault was judged with 0.
pub fault-none : (n p : ℕ) → first (faults_at n p) ≡ None → n ≡ 0
unfolding first faults_at lower
fault-none n p = go (eqb n 0) refl
  where
    go : (t : Bool) → eqb n 0 ≡ t → first (if t then [] else a_fault n p ∷ []) ≡ None → n ≡ 0
    go true e z = eqb-true n 0 e
    go false e z = false-true (ap is_none z)

-- A number that is not 0 decides where it is the only one.
pub fault-here : (n p : ℕ) → eqb n 0 ≡ false → first (faults_at n p) ≡ Some (a_fault n p)
unfolding first faults_at lower
fault-here n p e = rw e

-- Of no faults none decides.
pub none_first : (l : List Fault) → l ≡ [] → first l ≡ None
unfolding first
none_first l e = rw e

-- A value that adds no fault was judged with 0.
pub none-fault : (n p : ℕ) → faults_at n p ≡ [] → n ≡ 0
none-fault n p e = fault-none n p (none_first (faults_at n p) e)

-- Parts, taken one by one or as two groups.
pub first_part : (part : List Fault) (parts : List (List Fault)) → first (all_of (part ∷ parts)) ≡ lower (first part) (first (all_of parts))
unfolding all_of
first_part part parts = first-append part (all_of parts)

pub first-groups : (l m : List (List Fault)) → first (all_of (l ++ m)) ≡ lower (first (all_of l)) (first (all_of m))
first-groups [] m = unfold all_of first in sym (none-lower (first (all_of m)))
first-groups (part ∷ l) m =
    first_part part (l ++ m)
    ∙ ap (lower (first part)) (first-groups l m)
    ∙ lower-assoc (first part) (first (all_of l)) (first (all_of m))
    ∙ ap (λ (x : First). lower x (first (all_of m))) (sym (first_part part l))

-- A fault is not none.
pub at_none : (n p : ℕ) → Some (a_fault n p) ≡ None → ⊥
at_none n p e = false-true (ap is_none e)
