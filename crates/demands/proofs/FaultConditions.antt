-- What decides of a list of faults is what the conditions give.
use Rattle.std.specs.Prelude.{if◌then◌else◌, Some, None}
use Prim.Native.Nat.{ℕ, suc, ◌≤◌, ◌<◌}
use mathlib.Core.Bool.{Bool, true, false, not, ◌&&◌, ◌||◌}
use mathlib.Core.List.{List, [], ◌∷◌, ◌++◌, map}
use mathlib.Core.Path.{◌≡◌, refl, sym, ap, ◌∙◌, subst}
use native.Mathlib.Omega.{arith}
use lib.Dec.{eqb, ltb, leb}
use borrow.Author.Tests.{eqb-true, eqb-false, eq-eqb, ne_eqb, lt-ltb, le-ltb, leb-true}
use Rattle.signed.proofs.Parts.{false-true}
use mathlib.Core.Logic.{⊎_elim}
use Rattle.rule.proofs.Bools.{by, or-either, left, right}
use Rattle.rule.specs.Lists.{any}
use Rattle.fault.specs.declared.Fault.{Fault}
use Rattle.fault.specs.Fault.{is_wrong, order, decides, lower, first, first_number, first_place, First}
use Rattle.fault.proofs.Laws.{Comes, by_order, by_place, by_number, comes, later as comes-later, told, through}
use Rattle.event.proofs.ValueNumbers.{is_number}
use Rattle.event.proofs.Numbers.{Each, AllNumbered}
use Rattle.demands.specs.Conditions.{Numbered, Given, nothing, here, later, earlier, is_at, is_first, has, fault_conditions}

-- ---- what `first` gives stands in the list, and decides against each of it

abbrev After : ℕ → ℕ → Fault → Type 0
After n p g = decides n p g.number g.place ≡ true

after-all : (n p m q : ℕ) → decides n p m q ≡ true → (l : List Fault) → Each (After m q) l → Each (After n p) l
after-all n p m q e [] h = tt
after-all n p m q e (g ∷ l) h = (told n p _ _ (through n p m q _ _ (comes n p m q e) (comes m q _ _ h.0)), after-all n p m q e l h.1)

record Found (l : List Fault) (n p : ℕ) : Type 0 where
  there : any (is_at n p) l ≡ true
  least : Each (After n p) l

abbrev Finds : List Fault → First → Type 0
Finds l None = l ≡ []
Finds l (Some f) = Found l f.number f.place

itself : (n p : ℕ) → is_at n p (record { number = n; place = p }) ≡ true
itself n p = rw (eq-eqb n n refl, eq-eqb p p refl)

or-true : (a : Bool) → (a || true) ≡ true
or-true true = refl
or-true false = refl

same-decides : (n p : ℕ) → decides n p n p ≡ true
same-decides n p = told n p n p (by_number refl refl (omega arith))

finds : (l : List Fault) → Finds l (first l)
unfolding first lower any
finds [] = refl
finds (f ∷ l) = go (first l) (finds l)
  where
    go : (x : First) → Finds l x → Finds (f ∷ l) (lower (Some f) x)
    go None e = rw e (record { there = rw (itself f.number f.place); least = (same-decides f.number f.place, tt) })
    go (Some g) h = two (decides f.number f.place g.number g.place) refl
      where
        two : (t : Bool) → decides f.number f.place g.number g.place ≡ t → Finds (f ∷ l) (if t then Some f else Some g)
        two true e = record {
          there = rw (itself f.number f.place);
          least = (same-decides f.number f.place, after-all f.number f.place g.number g.place e l h.least);
        }
        two false e = record {
          there = rw h.there (or-true (is_at g.number g.place f));
          least = (told g.number g.place f.number f.place (comes-later f.number f.place g.number g.place e), h.least);
        }

-- ---- the conditions

-- a fault that is there passes a test that it passes
some-passes : (n p : ℕ) (t : Fault → Bool) → t (record { number = n; place = p }) ≡ true → (l : List Fault) → any (is_at n p) l ≡ true → any t l ≡ true
unfolding any
some-passes n p t e [] h = h
some-passes n p t e (f ∷ l) h = go (eqb f.number n) (eqb f.place p) refl refl (λ k. some-passes n p t e l k)
  where
    go : (a b : Bool) → eqb f.number n ≡ a → eqb f.place p ≡ b → (any (is_at n p) l ≡ true → any t l ≡ true) → (t f || any t l) ≡ true
    go true true a b tail =
        let same : f ≡ record { number = n; place = p } = (λ i. record { number = eqb-true f.number n a i; place = eqb-true f.place p b i }) in
        rw (ap t same, e)
    go true false a b tail = rw (tail (rw (a, b) at h)) (or-true (t f))
    go false b a c tail = rw (tail (rw a at h)) (or-true (t f))

-- a test that nothing passes
none_passes : (P : Fault → Type 0) (t : Fault → Bool) → ((f : Fault) → P f → t f ≡ false) → (l : List Fault) → Each P l → any t l ≡ false
unfolding any
none_passes P t e [] h = refl
none_passes P t e (f ∷ l) h = rw (e f h.0) (none_passes P t e l h.1)

wrong-order : (n : ℕ) → is_wrong n ≡ true → order n ≡ 6
unfolding order
wrong-order n e = rw e

fine-order : (n : ℕ) → is_wrong n ≡ false → order n ≡ n
unfolding order
fine-order n e = rw e

-- nothing stands earlier than what decides
not_earlier : (n p : ℕ) → is_wrong n ≡ true → (g : Fault) → After n p g → earlier n p g ≡ false
unfolding earlier
not_earlier n p w g b = go (is_wrong g.number) refl (comes n p g.number g.place b)
  where
    go : (t : Bool) → is_wrong g.number ≡ t → Comes n p g.number g.place → (t && (ltb g.place p || (eqb g.place p && ltb g.number n))) ≡ false
    go false e c = refl
    go true e (by_order h) = let a = wrong-order n w in let b = wrong-order g.number e in absurd (omega (arith, a, b))
    go true e (by_place o h) = rw (le-ltb g.place p (omega arith), ne_eqb g.place p (λ q. omega arith))
    go true e (by_number o f h) = rw (le-ltb g.place p (omega arith), eq-eqb g.place p (sym f), le-ltb g.number n h)

-- another number that is wrong has what decides before it
is-earlier : (n p m q : ℕ) → is_wrong n ≡ true → is_wrong m ≡ true → (n ≡ m → ⊥) → decides n p m q ≡ true → earlier m q (record { number = n; place = p }) ≡ true
unfolding earlier
is-earlier n p m q w v d b = rw w (go (comes n p m q b))
  where
    go : Comes n p m q → (ltb p q || (eqb p q && ltb n m)) ≡ true
    go (by_order h) = let a = wrong-order n w in let c = wrong-order m v in absurd (omega (arith, a, c))
    go (by_place o h) = rw (lt-ltb p q h)
    go (by_number o f h) =
        let less : n < m = strict d in
        rw (le-ltb p q (omega arith), eq-eqb p q f, lt-ltb n m less)
      where
        strict : (n ≡ m → ⊥) → n < m
        strict k = omega (arith, k, h)

module _ (l : List Fault) (n p : ℕ) (found : Found l n p) where
  first-here : is_wrong n ≡ true → is_first l n ≡ true
  unfolding is_first
  first-here w =
      some-passes n p (λ (f : Fault). eqb f.number n && not (any (earlier n f.place) l))
      (rw (eq-eqb n n refl, none_passes (After n p) (earlier n p) (not_earlier n p w) l found.least)) l found.there

  first-other : is_wrong n ≡ true → (m : ℕ) → is_wrong m ≡ true → (n ≡ m → ⊥) → is_first l m ≡ false
  unfolding is_first
  first-other w m v d =
      none_passes (After n p) (λ (f : Fault). eqb f.number m && not (any (earlier m f.place) l)) one l found.least
    where
      one : (f : Fault) → After n p f → (eqb f.number m && not (any (earlier m f.place) l)) ≡ false
      one f b = go (eqb f.number m) refl
        where
          go : (t : Bool) → eqb f.number m ≡ t → (t && not (any (earlier m f.place) l)) ≡ false
          go false e = refl
          go true e =
              let c : decides n p m f.place ≡ true = rw (eqb-true f.number m e) at b in
              rw (some-passes n p (earlier m f.place) (is-earlier n p m f.place w v d c) l found.there)

  -- where what decides is not wrong, nothing is; and nothing has a lower number
  above : is_wrong n ≡ false → (m : ℕ) → order m < n → (f : Fault) → After n p f → eqb f.number m ≡ false
  above w m h f b = go (comes n p f.number f.place b)
    where
      go : Comes n p f.number f.place → eqb f.number m ≡ false
      go (by_order k) = let a = fine-order n w in ne_eqb f.number m (λ e. let x : order f.number ≡ order m = ap order e in absurd (omega (arith, a, x, h, k)))
      go (by_place o k) = let a = fine-order n w in ne_eqb f.number m (λ e. let x : order f.number ≡ order m = ap order e in absurd (omega (arith, a, x, h, o)))
      go (by_number o f k) = let a = fine-order n w in ne_eqb _ m (λ e. let x = ap order e in absurd (omega (arith, a, x, h, o)))

  none_first : is_wrong n ≡ false → (m : ℕ) → order m < n → is_first l m ≡ false
  unfolding is_first
  none_first w m h = none_passes (After n p) (λ (f : Fault). eqb f.number m && not (any (earlier m f.place) l)) (λ f b. rw (above w m h f b)) l found.least

  has-none : is_wrong n ≡ false → (m : ℕ) → order m < n → has l m ≡ false
  unfolding has
  has-none w m h = none_passes (After n p) (λ (f : Fault). eqb f.number m) (above w m h) l found.least

  has-this : has l n ≡ true
  unfolding has
  has-this = some-passes n p (λ (f : Fault). eqb f.number n) (eq-eqb n n refl) l found.there

-- ---- the whole list of conditions

abbrev wrong_numbers : List ℕ
wrong_numbers = 20 ∷ 21 ∷ 22 ∷ 23 ∷ 24 ∷ 25 ∷ 26 ∷ []

abbrev Wrongs : List ℕ → Type 0
Wrongs [] = Unit {0}
Wrongs (m ∷ ms) = (is_wrong m ≡ true) × Wrongs ms

abbrev Below : ℕ → List ℕ → Type 0
Below n [] = Unit {0}
Below n (m ∷ ms) = (order m < n) × Below n ms

module _ (l : List Fault) where
  abbrev wrong_row : ℕ → Numbered
  wrong_row n = record { number = n; holds = is_first l n }

  abbrev row : ℕ → Numbered
  row n = record { number = n; holds = has l n }

  module _ (n p : ℕ) (found : Found l n p) where
    given-wrong : is_wrong n ≡ true → (ms : List ℕ) → Wrongs ms → any (λ (m : ℕ). eqb m n) ms ≡ true → (rest : List Numbered) → Given (map wrong_row ms ++ rest) n
    unfolding any
    given-wrong w [] v h rest = false-true h
    given-wrong w (m ∷ ms) v h rest = go (eqb m n) refl (λ k. given-wrong w ms v.1 k rest)
      where
        go : (t : Bool) → eqb m n ≡ t → (any (λ (k : ℕ). eqb k n) ms ≡ true → Given (map wrong_row ms ++ rest) n) → Given (wrong_row m ∷ (map wrong_row ms ++ rest)) n
        go true e tail = subst (λ (k : ℕ). Given (wrong_row m ∷ (map wrong_row ms ++ rest)) k) (eqb-true m n e) (here (rw (eqb-true m n e) (first-here l n p found w)))
        go false e tail = later (first-other l n p found w m v.0 (λ q. eqb-false m n e (sym q))) (tail (rw e at h))

    skip-wrong : is_wrong n ≡ false → (ms : List ℕ) → Below n ms → (rest : List Numbered) (k : ℕ) → Given rest k → Given (map wrong_row ms ++ rest) k
    skip-wrong w [] b rest k g = g
    skip-wrong w (m ∷ ms) b rest k g = later (none_first l n p found w m b.0) (skip-wrong w ms b.1 rest k g)

    given-seven : n ≡ 7 → is_wrong n ≡ false → Given (map row (7 ∷ 8 ∷ 9 ∷ [])) n
    given-seven e w = subst (λ (k : ℕ). Given (map row (7 ∷ 8 ∷ 9 ∷ [])) k) (sym e) (here (rw e at (has-this l n p found)))

    given-eight : n ≡ 8 → is_wrong n ≡ false → Given (map row (7 ∷ 8 ∷ 9 ∷ [])) n
    unfolding order is_wrong
    given-eight e w = subst (λ (k : ℕ). Given (map row (7 ∷ 8 ∷ 9 ∷ [])) k) (sym e) (later (has-none l n p found w 7 (omega arith)) (here (rw e at (has-this l n p found))))

    given-nine : n ≡ 9 → is_wrong n ≡ false → Given (map row (7 ∷ 8 ∷ 9 ∷ [])) n
    unfolding order is_wrong
    given-nine e w =
        subst (λ (k : ℕ). Given (map row (7 ∷ 8 ∷ 9 ∷ [])) k) (sym e)
        (later (has-none l n p found w 7 (omega arith)) (later (has-none l n p found w 8 (omega arith)) (here (rw e at (has-this l n p found)))))

  nothing-given : l ≡ [] → Given (fault_conditions l) 0
  unfolding fault_conditions is_first has any
  nothing-given e = rw e (later refl (later refl (later refl (later refl (later refl (later refl (later refl (later refl (later refl (later refl nothing))))))))))

-- ---- what decides is what the conditions give

number-high : (n : ℕ) → is_number n ≡ true → is_wrong n ≡ true → n ≤ 26
unfolding is_wrong
number-high n h w =
    ⊎_elim (λ (z : (leb 7 n && leb n 9) ≡ true). let a : n ≤ 9 = leb-true n 9 (right (leb 7 n) (leb n 9) z) in let b : 20 ≤ n = leb-true 20 n w in absurd (omega arith))
    (λ (z : (leb 20 n && leb n 26) ≡ true). leb-true n 26 (right (leb 20 n) (leb n 26) z))
    (or-either (leb 7 n && leb n 9) (leb 20 n && leb n 26) h)

number-low : (n : ℕ) → is_number n ≡ true → is_wrong n ≡ false → (7 ≤ n) × (n ≤ 9)
unfolding is_wrong
number-low n h w =
    ⊎_elim (λ (z : (leb 7 n && leb n 9) ≡ true). (leb-true 7 n (left (leb 7 n) (leb n 9) z), leb-true n 9 (right (leb 7 n) (leb n 9) z)))
    (λ (z : (leb 20 n && leb n 26) ≡ true). false-true (sym w ∙ left (leb 20 n) (leb n 26) z))
    (or-either (leb 7 n && leb n 9) (leb 20 n && leb n 26) h)

next : (m n : ℕ) → m ≤ n → (m ≡ n → ⊥) → suc m ≤ n
next m n h d = omega (arith, h, d)

all-wrong : Wrongs wrong_numbers
unfolding is_wrong
all-wrong = (refl, (refl, (refl, (refl, (refl, (refl, (refl, tt)))))))

in-wrong : (n : ℕ) → 20 ≤ n → n ≤ 26 → any (λ (m : ℕ). eqb m n) wrong_numbers ≡ true
unfolding any
in-wrong n h k =
    by (eqb 20 n) (λ a. rw a) (λ a. rw a (by (eqb 21 n) (λ b. rw b) (λ b. rw b (by (eqb 22 n) (λ c. rw c) (λ c. rw c (by (eqb 23 n) (λ d. rw d) (λ d. rw d
    (by (eqb 24 n) (λ e. rw e) (λ e. rw e (by (eqb 25 n) (λ f. rw f) (λ f. rw f
    (let last : 26 ≡ n = rest (eqb-false 20 n a) (eqb-false 21 n b) (eqb-false 22 n c) (eqb-false 23 n d) (eqb-false 24 n e) (eqb-false 25 n f) in rw (eq-eqb 26 n last)))))))))))))
  where
    rest : (20 ≡ n → ⊥) → (21 ≡ n → ⊥) → (22 ≡ n → ⊥) → (23 ≡ n → ⊥) → (24 ≡ n → ⊥) → (25 ≡ n → ⊥) → 26 ≡ n
    rest a b c d e f = let z : 26 ≤ n = next 25 n (next 24 n (next 23 n (next 22 n (next 21 n (next 20 n h a) b) c) d) e) f in omega (arith, z, k)

-- what holds of each fault of a list holds of one that is there
pub each-there : (P : Fault → Type 0) (n p : ℕ) (l : List Fault) → Each P l → any (is_at n p) l ≡ true → P (record { number = n; place = p })
unfolding any
each-there P n p [] h e = false-true e
each-there P n p (f ∷ l) h e =
    ⊎_elim (λ (z : is_at n p f ≡ true). subst P (same z) h.0) (λ (z : any (is_at n p) l ≡ true). each-there P n p l h.1 z)
    (or-either (is_at n p f) (any (is_at n p) l) e)
  where
    same : is_at n p f ≡ true → f ≡ record { number = n; place = p }
    same z =
        λ i. record {
          number = eqb-true f.number n (left (eqb f.number n) (eqb f.place p) z) i;
          place = eqb-true f.place p (right (eqb f.number n) (eqb f.place p) z) i;
        }

module _ (l : List Fault) (numbers : AllNumbered l) where
  number-there : (n p : ℕ) → Found l n p → is_number n ≡ true
  number-there n p found = each-there (λ (f : Fault). is_number f.number ≡ true) n p l numbers found.there

  decided : (n p : ℕ) → Found l n p → (w : Bool) → is_wrong n ≡ w → Given (fault_conditions l) n
  unfolding fault_conditions
  decided n p found true w = given-wrong l n p found w wrong_numbers all-wrong (in-wrong n (wrong-low n w) (number-high n (number-there n p found) w)) _
    where
      wrong-low : (n : ℕ) → is_wrong n ≡ true → 20 ≤ n
      wrong-low n w = unfold is_wrong in leb-true 20 n w
  decided n p found false w =
      let low = number-low n (number-there n p found) w in
      skip-wrong l n p found w wrong_numbers (below low) _ n (rows low)
    where
      below : (7 ≤ n) × (n ≤ 9) → Below n wrong_numbers
      below low = unfold order is_wrong in (omega (arith, low.0), (omega (arith, low.0), (omega (arith, low.0), (omega (arith, low.0), (omega (arith, low.0), (omega (arith, low.0), (omega (arith, low.0), tt)))))))

      rows : (7 ≤ n) × (n ≤ 9) → Given (map (row l) (7 ∷ 8 ∷ 9 ∷ [])) n
      rows low =
          by (eqb n 7) (λ a. given-seven l n p found (eqb-true n 7 a) w)
          (λ a. by (eqb n 8) (λ b. given-eight l n p found (eqb-true n 8 b) w)
          (λ b. let x = eqb-false n 7 a in let y = eqb-false n 8 b in given-nine l n p found (omega (arith, x, y, low.0, low.1)) w))

  pub fault-given : Given (fault_conditions l) (first_number (first l))
  fault-given = go (first l) (finds l)
    where
      go : (x : First) → Finds l x → Given (fault_conditions l) (first_number x)
      go None e = nothing-given l e
      go (Some f) found = decided f.number f.place found (is_wrong f.number) refl

  -- and for 20 to 26 it stands at its place, with nothing that is wrong before it
  pub fault-located : is_wrong (first_number (first l)) ≡ true
      → (any (is_at (first_number (first l)) (first_place (first l))) l ≡ true)
      × (any (earlier (first_number (first l)) (first_place (first l))) l ≡ false)
  fault-located = go (first l) (finds l)
    where
      go : (x : First) → Finds l x → is_wrong (first_number x) ≡ true
          → (any (is_at (first_number x) (first_place x)) l ≡ true) × (any (earlier (first_number x) (first_place x)) l ≡ false)
      go None e w = false-true (unfold is_wrong in w)
      go (Some f) found w = rw w (found.there, none_passes (After f.number f.place) (earlier f.number f.place) (not_earlier f.number f.place w) l found.least)
