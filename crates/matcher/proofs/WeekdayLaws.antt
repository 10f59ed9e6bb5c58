-- What is marked of `byDay` is what its entries say.
use Rattle.std.specs.Prelude.{if◌then◌else◌}
use Prim.Native.Nat.{ℕ, ◌+◌, ◌-◌, ◌*◌, ◌<◌, ◌≤◌}
use mathlib.Core.Bool.{Bool, true, false, ◌&&◌, ◌||◌}
use mathlib.Core.List.{List, [], ◌∷◌}
use mathlib.Core.Logic.{◌⊎◌, inl, inr}
use mathlib.Core.Option.{Option, none, some}
use mathlib.Core.Path.{◌≡◌, refl, sym, ap, ◌∙◌}
use native.Mathlib.Omega.{arith}
use lib.Dec.{eqb, ltb}
use lib.IntN.{ℤ}
use lib.ListN.{length, get_or}
use borrow.Author.Tests.{ltb-true, eqb-true, eq-eqb, lt-ltb}
use Rattle.signed.specs.Parts.{pos_part, neg_part}
use Rattle.signed.specs.Place.{place_of}
use Rattle.rule.specs.Written.{NDay}
use Rattle.rule.specs.Lists.{any}
use Rattle.rule.proofs.Bools.{by, both, left, right, same_tests}
use Rattle.matcher.specs.Inner.Flags.{named}
use Rattle.matcher.specs.Inner.Layout.{weekdays_at, nths_at, nths_back, positions_at}
use Rattle.matcher.specs.Inner.Marks.{mark_place, mark_nth, mark_days}
use Rattle.matcher.proofs.MarkLaws.{mark-length, mark-flag, place-length, place-flag, hits, hits-in, hits-below, hits-above, hits_place, any_same, any-never, any-or, or-none, or-regroup, named-or, place-tests}

abbrev hits_nth : ℕ → Option ℤ → ℕ → Bool
hits_nth w none j = hits weekdays_at 7 w j
hits_nth w (some z) j = ltb w 7 && hits_place (nths_at + 54 * w) (nths_back + 54 * w) 54 z j

nth-length : (fl : List Bool) (w : ℕ) (o : Option ℤ) → length (mark_nth fl w o) ≡ length fl
unfolding mark_nth
nth-length fl w none = mark-length fl weekdays_at 7 w
nth-length fl w (some z) = go (ltb w 7)
  where
    go : (b : Bool) → length (if b then mark_place fl (nths_at + 54 * w) (nths_back + 54 * w) 54 z else fl) ≡ length fl
    go true = place-length fl (nths_at + 54 * w) (nths_back + 54 * w) 54 z
    go false = refl

nth-flag : (fl : List Bool) (w : ℕ) (o : Option ℤ) (j : ℕ) → positions_at ≤ length fl
    → get_or (mark_nth fl w o) j false ≡ (get_or fl j false || hits_nth w o j)
unfolding mark_nth
nth-flag fl w none j room = mark-flag fl weekdays_at 7 w j (omega arith)
nth-flag fl w (some z) j room = go (ltb w 7) refl
  where
    go : (b : Bool) → ltb w 7 ≡ b
        → get_or (if b then mark_place fl (nths_at + 54 * w) (nths_back + 54 * w) 54 z else fl) j false
        ≡ (get_or fl j false || (b && hits_place (nths_at + 54 * w) (nths_back + 54 * w) 54 z j))
    go true e =
        let h = ltb-true w 7 e in
        place-flag fl (nths_at + 54 * w) (nths_back + 54 * w) 54 z j (omega arith) (omega arith)
    go false e = sym (or-none (get_or fl j false))

pub days-length : (fl : List Bool) (l : List NDay) → length (mark_days fl l) ≡ length fl
unfolding mark_days
days-length fl [] = refl
days-length fl (e ∷ l) = days-length (mark_nth fl e.day e.nth_of_period) l ∙ nth-length fl e.day e.nth_of_period

pub days-flag : (fl : List Bool) (l : List NDay) (j : ℕ) → positions_at ≤ length fl
    → get_or (mark_days fl l) j false ≡ (get_or fl j false || any (λ e. hits_nth e.day e.nth_of_period j) l)
unfolding mark_days any
days-flag fl [] j room = sym (or-none (get_or fl j false))
days-flag fl (e ∷ l) j room =
    days-flag (mark_nth fl e.day e.nth_of_period) l j (rw (nth-length fl e.day e.nth_of_period) room)
    ∙ (ap (λ (b : Bool). b || any (λ e. hits_nth e.day e.nth_of_period j) l) (nth-flag fl e.day e.nth_of_period j room)
    ∙ or-regroup (get_or fl j false) (hits_nth e.day e.nth_of_period j) (any (λ e. hits_nth e.day e.nth_of_period j) l))

-- ---- the three flags of a weekday and a place

abbrev pub nth_is : Option ℤ → ℕ → ℕ → Bool
nth_is none p n = true
nth_is (some z) p n = eqb (place_of z n) p

abbrev on_is : Option ℤ → ℕ → Bool
on_is none p = false
on_is (some z) p = eqb (pos_part z) p

abbrev back_is : Option ℤ → ℕ → Bool
back_is none q = false
back_is (some z) q = eqb (neg_part z) q

abbrev is_none : Option ℤ → Bool
is_none none = true
is_none (some z) = false

and-true : (b : Bool) → (b && true) ≡ b
and-true true = refl
and-true false = refl

and_none : (b : Bool) → (b && false) ≡ false
and_none true = refl
and_none false = refl

module _ (w : ℕ) (h : w < 7) where
  hits-any : (d : ℕ) (o : Option ℤ) → hits_nth d o (weekdays_at + w) ≡ (eqb d w && is_none o)
  hits-any d none = hits-in weekdays_at 7 d w h ∙ sym (and-true (eqb d w))
  hits-any d (some z) =
      rw (hits-below (nths_at + 54 * d) 54 (pos_part z) (weekdays_at + w) (omega arith), hits-below (nths_back + 54 * d) 54 (neg_part z) (weekdays_at + w) (omega arith))
      (and_none (ltb d 7) ∙ sym (and_none (eqb d w)))

  -- a run of 54 flags for each weekday
  hits-run : (at d i k : ℕ) → k < 54 → (ltb d 7 && hits (at + 54 * d) 54 i (at + 54 * w + k)) ≡ (eqb d w && eqb i k)
  hits-run at d i k small =
      same_tests (ltb d 7 && hits (at + 54 * d) 54 i (at + 54 * w + k)) (eqb d w && eqb i k)
      (λ e.
      let inner = right (ltb d 7) (hits (at + 54 * d) 54 i (at + 54 * w + k)) e in
      let less = ltb-true i 54 (left (ltb i 54) (eqb (at + 54 * d + i) (at + 54 * w + k)) inner) in
      let same = eqb-true (at + 54 * d + i) (at + 54 * w + k) (right (ltb i 54) (eqb (at + 54 * d + i) (at + 54 * w + k)) inner) in
      both (eqb d w) (eqb i k) (eq-eqb d w (omega arith)) (eq-eqb i k (omega arith)))
      (λ e.
      let day = eqb-true d w (left (eqb d w) (eqb i k) e) in
      let place = eqb-true i k (right (eqb d w) (eqb i k) e) in
      both (ltb d 7) (hits (at + 54 * d) 54 i (at + 54 * w + k)) (lt-ltb d 7 (omega arith))
      (both (ltb i 54) (eqb (at + 54 * d + i) (at + 54 * w + k)) (lt-ltb i 54 (omega arith)) (eq-eqb (at + 54 * d + i) (at + 54 * w + k) (omega arith))))

  hits-on : (p : ℕ) → p < 54 → (d : ℕ) (o : Option ℤ) → hits_nth d o (nths_at + 54 * w + p) ≡ (eqb d w && on_is o p)
  hits-on p small d none = hits-above weekdays_at 7 d (nths_at + 54 * w + p) (omega arith) ∙ sym (and_none (eqb d w))
  hits-on p small d (some z) =
      rw (hits-below (nths_back + 54 * d) 54 (neg_part z) (nths_at + 54 * w + p) (omega arith), or-none (hits (nths_at + 54 * d) 54 (pos_part z) (nths_at + 54 * w + p)))
      (hits-run nths_at d (pos_part z) p small)

  hits-back : (q : ℕ) → q < 54 → (d : ℕ) (o : Option ℤ) → hits_nth d o (nths_back + 54 * w + q) ≡ (eqb d w && back_is o q)
  hits-back q small d none = hits-above weekdays_at 7 d (nths_back + 54 * w + q) (omega arith) ∙ sym (and_none (eqb d w))
  hits-back q small d (some z) = lone ∙ hits-run nths_back d (neg_part z) q small
    where
      lone : (ltb d 7 && hits_place (nths_at + 54 * d) (nths_back + 54 * d) 54 z (nths_back + 54 * w + q)) ≡ (ltb d 7 && hits (nths_back + 54 * d) 54 (neg_part z) (nths_back + 54 * w + q))
      lone =
          by (ltb d 7)
          (λ e. rw (e, hits-above (nths_at + 54 * d) 54 (pos_part z) (nths_back + 54 * w + q) (omega (arith, ltb-true d 7 e))))
          (λ e. rw e)

  -- together they say that the entry has this weekday, and this place if it has one
  entry-tests : (p n : ℕ) → 1 ≤ p → p ≤ n → (d : ℕ) (o : Option ℤ)
      → ((eqb d w && is_none o) || ((eqb d w && on_is o p) || (eqb d w && back_is o (n + 1 - p)))) ≡ (eqb d w && nth_is o p n)
  entry-tests p n low high d o = go (eqb d w) o
    where
      go : (b : Bool) (o : Option ℤ) → ((b && is_none o) || ((b && on_is o p) || (b && back_is o (n + 1 - p)))) ≡ (b && nth_is o p n)
      go true none = refl
      go true (some z) = place-tests z p n low high
      go false none = refl
      go false (some z) = refl

  pub weekday-named : (fl : List Bool) (l : List NDay) (p n : ℕ) → positions_at ≤ length fl → 1 ≤ p → p ≤ n → n < 54
      → get_or fl (weekdays_at + w) false ≡ false → get_or fl (nths_at + 54 * w + p) false ≡ false → get_or fl (nths_back + 54 * w + (n + 1 - p)) false ≡ false
      → (if get_or (mark_days fl l) (weekdays_at + w) false then true else named (mark_days fl l) (nths_at + 54 * w) (nths_back + 54 * w) p n)
      ≡ any (λ e. eqb e.day w && nth_is e.nth_of_period p n) l
  unfolding named
  weekday-named fl l p n room low high small c0 c1 c2 =
      let f0 : get_or (mark_days fl l) (weekdays_at + w) false ≡ any (λ e. eqb e.day w && is_none e.nth_of_period) l =
      days-flag fl l (weekdays_at + w) room ∙ rw c0 (any_same _ _ l (λ e. hits-any e.day e.nth_of_period))
      in
      let f1 : get_or (mark_days fl l) (nths_at + 54 * w + p) false ≡ any (λ e. eqb e.day w && on_is e.nth_of_period p) l =
      days-flag fl l (nths_at + 54 * w + p) room ∙ rw c1 (any_same _ _ l (λ e. hits-on p (omega arith) e.day e.nth_of_period))
      in
      let f2 : get_or (mark_days fl l) (nths_back + 54 * w + (n + 1 - p)) false ≡ any (λ e. eqb e.day w && back_is e.nth_of_period (n + 1 - p)) l =
      days-flag fl l (nths_back + 54 * w + (n + 1 - p)) room ∙ rw c2 (any_same _ _ l (λ e. hits-back (n + 1 - p) (omega arith) e.day e.nth_of_period))
      in
      rw (f0, f1, f2)
      (named-or (any (λ e. eqb e.day w && is_none e.nth_of_period) l) (if any (λ e. eqb e.day w && on_is e.nth_of_period p) l then true else any (λ e. eqb e.day w && back_is e.nth_of_period (n + 1 - p)) l)
      ∙ (ap (λ (b : Bool). any (λ e. eqb e.day w && is_none e.nth_of_period) l || b)
      (named-or (any (λ e. eqb e.day w && on_is e.nth_of_period p) l) (any (λ e. eqb e.day w && back_is e.nth_of_period (n + 1 - p)) l)
      ∙ any-or (λ e. eqb e.day w && on_is e.nth_of_period p) (λ e. eqb e.day w && back_is e.nth_of_period (n + 1 - p)) l)
      ∙ (any-or (λ e. eqb e.day w && is_none e.nth_of_period) (λ e. (eqb e.day w && on_is e.nth_of_period p) || (eqb e.day w && back_is e.nth_of_period (n + 1 - p))) l
      ∙ any_same _ _ l (λ e. entry-tests p n low high e.day e.nth_of_period))))

-- outside of its runs nothing is marked
pub days-outside : (fl : List Bool) (l : List NDay) (j : ℕ) → positions_at ≤ length fl → (j < weekdays_at) ⊎ (positions_at ≤ j) → get_or (mark_days fl l) j false ≡ get_or fl j false
days-outside fl l j room out = days-flag fl l j room ∙ (rw (any-never _ l (λ e. never e.day e.nth_of_period out)) (or-none (get_or fl j false)))
  where
    never : (d : ℕ) (o : Option ℤ) → (j < weekdays_at) ⊎ (positions_at ≤ j) → hits_nth d o j ≡ false
    never d none (inl h) = hits-below weekdays_at 7 d j h
    never d none (inr h) = hits-above weekdays_at 7 d j (omega arith)
    never d (some z) (inl h) =
        rw (hits-below (nths_at + 54 * d) 54 (pos_part z) j (omega arith), hits-below (nths_back + 54 * d) 54 (neg_part z) j (omega arith)) (and_none (ltb d 7))
    never d (some z) (inr h) =
        by (ltb d 7)
        (λ e.
        let less = ltb-true d 7 e in
        rw (hits-above (nths_at + 54 * d) 54 (pos_part z) j (omega arith), hits-above (nths_back + 54 * d) 54 (neg_part z) j (omega arith)) (and_none (ltb d 7)))
        (λ e. rw e)
