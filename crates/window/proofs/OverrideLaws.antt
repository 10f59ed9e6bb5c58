-- The overrides, one after the other.
use Rattle.std.specs.Prelude.{if◌then◌else◌}
use Prim.Native.Nat.{ℕ, ◌+◌, ◌<◌, ◌≤◌}
use mathlib.Core.Bool.{Bool, true, false, ◌&&◌, ◌||◌}
use mathlib.Core.List.{List, [], ◌∷◌}
use mathlib.Core.Path.{◌≡◌, refl, sym, ap, ◌∙◌, subst}
use native.Mathlib.Omega.{arith}
use lib.Dec.{eqb, ltb}
use lib.ListN.{length}
use borrow.Author.Tests.{ltb-true, ltb-false, eqb-true, eq-eqb, ne_eqb}
use Rattle.std.specs.List.{zip, list_any}
use Rattle.rule.proofs.Bools.{by, or_left, or_right}
use Rattle.dates.specs.Inner.Overrides.{counts, is_named, is_kept}
use Rattle.window.specs.Inner.Next.{nearer, least_of, next_of}
use Rattle.window.proofs.NextLaws.{next-is, next-made}

neither : (b c : Bool) → ((b && false) || c) ≡ c
neither true c = refl
neither false c = refl

-- ---- whether one names x, by the pairs of an id and its mark

pub named-any : (only : Bool) (ids : List ℕ) (gone : List Bool) (x : ℕ) → list_any (λ (p : ℕ × Bool). counts only p.1 && eqb p.0 x) (zip ids gone) ≡ is_named only ids gone x
unfolding is_named
named-any only [] gone x = refl
named-any only (i ∷ ids) [] x = refl
named-any only (i ∷ ids) (g ∷ gone) x = ap (λ (b : Bool). (counts only g && eqb i x) || b) (named-any only ids gone x)

-- ---- the least of those that are not excluded: those that are left have it from the best so far

pub record LeastAt (ids : List ℕ) (gone : List Bool) (at to best : ℕ) (left : List ℕ) (marks : List Bool) : Type 0 where
  pub sizes : length left ≡ length marks
  pub same : least_of at best left marks ≡ least_of at to ids gone

module _ (ids : List ℕ) (gone : List Bool) (at to best : ℕ) where
  pub least-goes-on : (next i : ℕ) (g : Bool) (left : List ℕ) (marks : List Bool) → LeastAt ids gone at to best (i ∷ left) (g ∷ marks) → next ≡ nearer at best i g
      → LeastAt ids gone at to next left marks
  unfolding least_of
  least-goes-on next i g left marks a is =
      let sizes = a.sizes in
      record { sizes = omega arith; same = ap (λ (b : ℕ). least_of at b left marks) is ∙ a.same }

  pub least-ends : LeastAt ids gone at to best [] [] → best ≡ least_of at to ids gone
  unfolding least_of
  least-ends a = a.same

-- an override names it, and what an override names before it is excluded by each that names it
record Least (at best : ℕ) (ids : List ℕ) (gone : List Bool) (r : ℕ) : Type 0 where
  low : at ≤ best → at ≤ r
  high : r ≤ best
  named : r < best → is_named false ids gone r ≡ true
  none : (j : ℕ) → at ≤ j → j < r → is_named false ids gone j ≡ is_named true ids gone j

module _ (at best i r : ℕ) (ids : List ℕ) (gone : List Bool) where
  -- an id that does not come nearer
  farther : (g : Bool) → ((j : ℕ) → at ≤ j → j < r → i ≡ j → g ≡ true) → Least at best ids gone r → Least at best (i ∷ ids) (g ∷ gone) r
  unfolding is_named counts
  farther g h f =
      record {
        low = f.low;
        high = f.high;
        named = λ less. or_right (eqb i r) (is_named false ids gone r) (f.named less);
        none = λ j below above.
            by (eqb i j) (λ e. rw (e, h j below above (eqb-true i j e)))
            (λ e. rw e (f.none j below above ∙ sym (neither g (is_named true ids gone j))));
      }

  -- an id that does
  closer : at ≤ i → i < best → Least at i ids gone r → Least at best (i ∷ ids) (false ∷ gone) r
  unfolding is_named counts
  closer after less f =
      let most = f.high in
      record {
        low = λ h. f.low after;
        high = omega arith;
        named = λ h.
            by (ltb r i) (λ e. or_right (eqb i r) (is_named false ids gone r) (f.named (ltb-true r i e)))
            (λ e. or_left (eqb i r) (is_named false ids gone r) (eq-eqb i r (omega (arith, ltb-false r i e))));
        none = λ j below above. rw (ne_eqb i j (λ same. omega arith)) (f.none j below above);
      }

nearer-gone : (at best i : ℕ) → nearer at best i true ≡ best
unfolding nearer
nearer-gone at best i = alike (ltb i at) (ltb i best)
  where
    alike : (a b : Bool) → (if a then best else if b then best else best) ≡ best
    alike true b = refl
    alike false true = refl
    alike false false = refl

least-is : (at best : ℕ) (ids : List ℕ) (gone : List Bool) → Least at best ids gone (least_of at best ids gone)
unfolding least_of nearer is_named
least-is at best [] gone =
    record { low = λ h. h; high = omega arith; named = λ h. absurd (omega arith); none = λ j below above. refl }
least-is at best (i ∷ ids) [] =
    record { low = λ h. h; high = omega arith; named = λ h. absurd (omega arith); none = λ j below above. refl }
least-is at best (i ∷ ids) (true ∷ gone) =
    subst (λ (b : ℕ). Least at best (i ∷ ids) (true ∷ gone) (least_of at b ids gone)) (sym (nearer-gone at best i))
    (farther at best i _ ids gone true (λ j below above same. refl) (least-is at best ids gone))
least-is at best (i ∷ ids) (false ∷ gone) =
    by (ltb i at)
    (λ e. rw e (farther at best i _ ids gone false (λ j below above same. absurd (omega (arith, ltb-true i at e))) (least-is at best ids gone)))
    (λ e.
    rw e
    (by (ltb i best)
    (λ f. rw f (closer at best i _ ids gone (ltb-false i at e) (ltb-true i best f) (least-is at i ids gone)))
    (λ f.
    let far = ltb-false i best f in
    let walk = least-is at best ids gone in
    rw f (farther at best i _ ids gone false (λ j below above same. absurd (omega (arith, walk.high))) walk))))

-- ---- the first that is kept

pub record KeptAt (ids : List ℕ) (gone : List Bool) (at to from : ℕ) : Type 0 where
  pub order : from ≤ to
  pub same : next_of (is_kept ids gone) from to ≡ next_of (is_kept ids gone) at to

module _ (ids : List ℕ) (gone : List Bool) (at to : ℕ) where
  pub kept-starts : at ≤ to → KeptAt ids gone at to at
  kept-starts order = record { order = order; same = refl }

  module _ (from : ℕ) (a : KeptAt ids gone at to from) where
    pub kept-ends : to ≤ from → to ≡ next_of (is_kept ids gone) at to
    kept-ends over =
        next-made (is_kept ids gone) from to a.order to
        (record { low = a.order; high = omega arith; passes = λ h. absurd (omega arith); none = λ j below above. absurd (omega arith) })
        ∙ a.same

    module _ (x : ℕ) (is : x ≡ least_of from to ids gone) where
      walk : Least from to ids gone x
      walk = subst (Least from to ids gone) (sym is) (least-is from to ids gone)

      pub kept-later : from ≤ x
      kept-later = walk.low a.order

      before : (j : ℕ) → from ≤ j → j < x → is_kept ids gone j ≡ false
      unfolding is_kept
      before j below above = rw (walk.none j below above) (never (is_named true ids gone j))
        where
          never : (b : Bool) → (if b then false else b) ≡ false
          never true = refl
          never false = refl

      pub kept-none : to ≤ x → to ≡ next_of (is_kept ids gone) at to
      kept-none over =
          next-made (is_kept ids gone) from to a.order to
          (record { low = a.order; high = omega arith; passes = λ h. absurd (omega arith); none = λ j below above. before j below (omega arith) })
          ∙ a.same

      pub kept_here : x < to → is_named true ids gone x ≡ false → x ≡ next_of (is_kept ids gone) at to
      unfolding is_kept
      kept_here less kept =
          next-made (is_kept ids gone) from to a.order x
          (record { low = kept-later; high = omega arith; passes = λ h. rw kept (walk.named less); none = before })
          ∙ a.same

      pub kept-goes-on : x < to → is_named true ids gone x ≡ true → KeptAt ids gone at to (x + 1)
      unfolding is_kept
      kept-goes-on less gone-it-is =
          let next = next-is (is_kept ids gone) (x + 1) to (omega arith) in
          let low = kept-later in
          record {
            order = omega arith;
            same =
                next-made (is_kept ids gone) from to a.order (next_of (is_kept ids gone) (x + 1) to)
                (record {
                  low = omega (arith, next.low);
                  high = next.high;
                  passes = next.passes;
                  none = λ j below above.
                      by (ltb j x) (λ e. before j below (ltb-true j x e))
                      (λ e.
                      by (ltb x j) (λ f. next.none j (omega (arith, ltb-true x j f)) above)
                      (λ f.
                      let here : x ≡ j = omega (arith, ltb-false j x e, ltb-false x j f) in
                      subst (λ (k : ℕ). is_kept ids gone k ≡ false) here (rw gone-it-is)));
                })
                ∙ a.same;
          }
