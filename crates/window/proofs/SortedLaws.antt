-- Ids that increase: an id stands at one place, and what stands after it is greater.
use Prim.Native.Nat.{ℕ, zero, suc, ◌+◌, ◌-◌, ◌<◌, ◌≤◌}
use mathlib.Core.Bool.{Bool, true, false, false≢true, ◌&&◌, ◌||◌}
use Rattle.std.proofs.lemmas.List.{get_or_default}
use Rattle.std.specs.List.{IsAllAdjacentAnswer}
use Rattle.std.specs.List.Sorted.{IsPartitionedBy, IsPartitionPoint}
use mathlib.Core.List.{List, [], ◌∷◌}
use mathlib.Core.Path.{◌≡◌, refl, sym, ap, ◌∙◌, subst}
use native.Mathlib.Omega.{arith}
use native.Mathlib.Numerals.{add-one}
use lib.Dec.{eqb, ltb}
use lib.ListN.{length, drop, get_or, length-drop, drop_of_length-le}
use lib.Seq.{drop-cons, get_or-drop}
use borrow.Author.Tests.{ltb-true, ltb-false, lt-ltb, le-ltb, eqb-true, eq-eqb, ne_eqb}
use Rattle.rule.proofs.Bools.{by}
use Rattle.dates.specs.Inner.Overrides.{counts, is_named, is_kept}
use Rattle.window.specs.Inner.Next.{next_of, lower}
use Rattle.window.specs.Inner.Sorted.{Rising, Ordered, less_than, Below}
use Rattle.window.proofs.NextLaws.{next-made}

-- ---- what the library says of each id and the next

pub rises-answer : (ids : List ℕ) (r : Bool) → IsAllAdjacentAnswer (λ x y b. b ≡ ltb x y) ids r → Ordered ids r × (Rising ids → r ≡ true)
rises-answer ids true h = (λ e. record { each = λ k less. ltb-true _ _ (sym (h k 0 less)) }, λ r. refl)
rises-answer ids false h =
    (λ e. absurd (false≢true e), λ r. absurd (false≢true (h.2 0 ∙ lt-ltb _ _ (r.each h.0 h.1))))

-- ---- what stands after is greater

module _ (ids : List ℕ) (r : Rising ids) where
  behind : (n i : ℕ) → i + suc n < length ids → get_or ids i 0 < get_or ids (i + suc n) 0
  behind zero i h =
      let one : i + 1 ≡ i + suc zero = omega arith in
      subst (λ (j : ℕ). get_or ids i 0 < get_or ids j 0) one (r.each i (omega arith))
  behind (suc n) i h =
      let next : (i + suc n) + 1 ≡ i + suc (suc n) = omega arith in
      let step : get_or ids (i + suc n) 0 < get_or ids (i + suc (suc n)) 0 = subst (λ (j : ℕ). get_or ids (i + suc n) 0 < get_or ids j 0) next (r.each (i + suc n) (omega arith)) in
      let before = behind n i (omega arith) in
      omega arith

  pub greater : (i j : ℕ) → i < j → j < length ids → get_or ids i 0 < get_or ids j 0
  greater i j h k =
      let there : i + suc (j - suc i) ≡ j = omega arith in
      subst (λ (m : ℕ). get_or ids i 0 < get_or ids m 0) there (behind (j - suc i) i (omega arith))

-- ---- where those that are less end

pub ids-part : (ids : List ℕ) (x : ℕ) → Rising ids → IsPartitionedBy (λ i. ltb i x) ids
ids-part ids x r i j d before within less =
    by (ltb i j)
    (λ e.
    let more = greater ids r i j (ltb-true i j e) within in
    lt-ltb _ _ (omega (arith, ltb-true _ x less, get_or_default ids i d 0 (omega arith), get_or_default ids j d 0 within)))
    (λ e.
    let same : i ≡ j = omega (arith, ltb-false i j e) in
    rw same less)

module _ (ids : List ℕ) (x : ℕ) where
  less-is : (ids : List ℕ) (r : ℕ) → r ≤ length ids → ((i : ℕ) → i < r → get_or ids i 0 < x) → (r < length ids → x ≤ get_or ids r 0) → r ≡ less_than x ids
  unfolding less_than
  less-is [] zero within less rest = refl
  less-is [] (suc r) within less rest = absurd (omega arith)
  less-is (i ∷ ids) zero within less rest = rw (le-ltb i x (rest (omega arith)))
  less-is (i ∷ ids) (suc r) within less rest =
      rw (lt-ltb i x (less 0 (omega arith)))
      (ap suc (less-is ids r (omega arith) (λ k h. less (suc k) (omega arith)) (λ h. rest (omega arith))))

  pub below-made : (r : ℕ) → r ≤ length ids → IsPartitionPoint (λ i. ltb i x ≡ true) (λ i. ltb i x ≡ false) ids r → Below ids x r
  below-made r within p =
      let less : ((i : ℕ) → i < r → get_or ids i 0 < x) = λ i h. ltb-true _ _ (p.0 i 0 (omega arith) h) in
      let rest : (r < length ids → x ≤ get_or ids r 0) = λ h. ltb-false _ _ (p.1 r 0 (omega arith) h) in
      record { is = less-is ids r within less rest; within = within; less = less; rest = rest }

-- ---- names

pub named-nowhere : (only : Bool) (ids : List ℕ) (gone : List Bool) (x : ℕ) → ((k : ℕ) → k < length ids → get_or ids k 0 ≡ x → ⊥) → is_named only ids gone x ≡ false
unfolding is_named
named-nowhere only [] gone x h = refl
named-nowhere only (i ∷ ids) [] x h = refl
named-nowhere only (i ∷ ids) (g ∷ gone) x h =
    rw (ne_eqb i x (h 0 (omega arith))) (neither (counts only g) ∙ named-nowhere only ids gone x (λ k less. h (suc k) (omega arith)))
  where
    neither : (b : Bool) → ((b && false) || is_named only ids gone x) ≡ is_named only ids gone x
    neither true = refl
    neither false = refl

-- those before a place name none of what is greater
pub named-over : (only : Bool) (ids : List ℕ) (gone : List Bool) (x k : ℕ) → k ≤ length ids → length ids ≡ length gone
    → ((i : ℕ) → i < k → get_or ids i 0 ≡ x → ⊥) → is_named only ids gone x ≡ is_named only (drop k ids) (drop k gone) x
unfolding is_named
named-over only ids gone x zero fits sizes h = refl
named-over only [] gone x (suc k) fits sizes h = absurd (omega arith)
named-over only (i ∷ ids) [] x (suc k) fits sizes h = absurd (omega arith)
named-over only (i ∷ ids) (g ∷ gone) x (suc k) fits sizes h =
    rw (ne_eqb i x (h 0 (omega arith))) (neither (counts only g) (is_named only ids gone x) ∙ named-over only ids gone x k (omega arith) (omega arith) (λ j less. h (suc j) (omega arith)))
  where
    neither : (b rest : Bool) → ((b && false) || rest) ≡ rest
    neither true rest = refl
    neither false rest = refl

-- ---- the walk to the next that is kept

pub record SortedAt (ids : List ℕ) (gone : List Bool) (at i : ℕ) : Type 0 where
  pub within : i ≤ length ids
  pub after : i < length ids → at ≤ get_or ids i 0
  pub same : (j : ℕ) → at ≤ j → is_kept ids gone j ≡ is_kept (drop i ids) (drop i gone) j

module _ (ids : List ℕ) (gone : List Bool) (at : ℕ) (r : Rising ids) (sizes : length ids ≡ length gone) where
  pub sorted-starts : (i : ℕ) → Below ids at i → SortedAt ids gone at i
  unfolding is_kept
  sorted-starts i b =
      record {
        within = b.within;
        after = b.rest;
        same = λ j low.
            rw (
              named-over true ids gone j i b.within sizes (λ k less e. omega (arith, b.less k less)),
              named-over false ids gone j i b.within sizes (λ k less e. omega (arith, b.less k less)),
            );
      }

  module _ (i : ℕ) (a : SortedAt ids gone at i) (more : i < length ids) where
    x : ℕ
    x = get_or ids i 0

    -- none after names it, nor what is less
    later : (only : Bool) (j : ℕ) → j ≤ get_or ids i 0 → is_named only (drop (suc i) ids) (drop (suc i) gone) j ≡ false
    later only j most =
        named-nowhere only (drop (suc i) ids) (drop (suc i) gone) j
        (λ k less e.
        let size = length-drop (suc i) ids in
        let there = get_or-drop (suc i) ids k 0 in
        let beyond = greater ids r i (suc i + k) (omega arith) (omega arith) in
        omega arith)

    step : (j : ℕ) → is_kept (drop i ids) (drop i gone) j ≡ is_kept (get_or ids i 0 ∷ drop (suc i) ids) (get_or gone i false ∷ drop (suc i) gone) j
    step j = rw (drop-cons ids i 0 more, drop-cons gone i false (omega arith))

    pub sorted-goes-on : get_or gone i false ≡ true → SortedAt ids gone at (i + 1)
    unfolding is_kept is_named counts
    sorted-goes-on e =
        let low = a.after more in
        rw (add-one i)
        (record {
          within = more;
          after = λ h. omega (arith, greater ids r i (suc i) (omega arith) h);
          same = λ j below. a.same j below ∙ (step j ∙ passed j);
        })
      where
        passed : (j : ℕ) → is_kept (get_or ids i 0 ∷ drop (suc i) ids) (get_or gone i false ∷ drop (suc i) gone) j ≡ is_kept (drop (suc i) ids) (drop (suc i) gone) j
        passed j =
            by (eqb (get_or ids i 0) j)
            (λ f.
            let here : get_or ids i 0 ≡ j = eqb-true (get_or ids i 0) j f in
            rw (e, f, later true j (omega arith), later false j (omega arith)))
            (λ f. rw (e, f))

    pub sorted-found : (to : ℕ) → at ≤ to → get_or gone i false ≡ false → (next : ℕ) → next ≡ lower to (get_or ids i 0) → next ≡ next_of (is_kept ids gone) at to
    unfolding is_kept is_named counts lower
    sorted-found to order e next is =
        by (ltb (get_or ids i 0) to)
        (λ f.
        let here : next ≡ get_or ids i 0 = is ∙ rw f in
        here
        ∙ next-made (is_kept ids gone) at to order (get_or ids i 0)
        (record { low = a.after more; high = omega (arith, ltb-true (get_or ids i 0) to f); passes = λ h. kept; none = none }))
        (λ f.
        let here : next ≡ to = is ∙ rw f in
        here
        ∙ next-made (is_kept ids gone) at to order to
        (record { low = order; high = omega arith; passes = λ h. absurd (omega arith); none = λ j low high. none j low (omega (arith, ltb-false (get_or ids i 0) to f)) }))
      where
        kept : is_kept ids gone (get_or ids i 0) ≡ true
        kept =
            a.same (get_or ids i 0) (a.after more)
            ∙ (step (get_or ids i 0) ∙ rw (e, later true (get_or ids i 0) (omega arith), eq-eqb (get_or ids i 0) (get_or ids i 0) refl))

        none : (j : ℕ) → at ≤ j → j < get_or ids i 0 → is_kept ids gone j ≡ false
        none j low high =
            a.same j low
            ∙ (step j ∙ rw (e, ne_eqb (get_or ids i 0) j (λ same. omega arith), later true j (omega arith), later false j (omega arith)))

  pub sorted_none : (i to : ℕ) → at ≤ to → SortedAt ids gone at i → length ids ≤ i → to ≡ next_of (is_kept ids gone) at to
  unfolding is_kept is_named
  sorted_none i to order a over =
      next-made (is_kept ids gone) at to order to
      (record { low = order; high = omega arith; passes = λ h. absurd (omega arith); none = λ j low high. a.same j low ∙ rw (drop_of_length-le ids over) })
