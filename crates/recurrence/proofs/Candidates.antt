-- The ids that are kept from the candidates are the ids of the window.
use Rattle.std.specs.Prelude.{if◌then◌else◌}
use Prim.Native.Nat.{ℕ, zero, suc, ◌+◌, ◌-◌, ◌/◌, ◌<◌, ◌≤◌}
use mathlib.Core.Bool.{Bool, true, false, false≢true, not, ◌&&◌, ◌||◌}
use mathlib.Core.List.{List, [], ◌∷◌, map}
use mathlib.Core.Logic.{◌⊎◌, inl, inr, ⊎_elim}
use mathlib.Core.Option.{Option, none, some}
use mathlib.Core.Path.{◌≡◌, refl, sym, ap, ◌∙◌, subst}
use native.Mathlib.Omega.{arith}
use native.Mathlib.Nat.{zero-add}
use lib.Dec.{eqb, leb, ltb}
use borrow.Author.Tests.{ltb-true, ltb-false, leb-true, le-leb, lt-leb, eqb-true, eq-eqb}
use Rattle.rule.specs.Written.{RecurrenceRule}
use Rattle.rule.specs.Lists.{any, count_in, within, not_after}
use Rattle.rule.specs.Gives.{end_day, on_day, falls, picks, gives}
use Rattle.rule.proofs.Bools.{by, or_left, or_right, or-either, both, left, right, same_tests}
use Rattle.rule.proofs.GivesLaws.{Given, given-parts, picks-low}
use Rattle.rule.proofs.Counting.{count-more, count_less, within-less}
use Rattle.recurrence.specs.Event.{Override, Event, override_excludes, override_names, is_start, some_gives, rule_gives, excluded_rule_gives, in_set}
use Rattle.recurrence.specs.Inner.Order.{IncreasesFrom, among}
use Rattle.recurrence.specs.Ids.{keep, ids}
use Rattle.recurrence.specs.Inner.Candidates.{days_that, is_past, rule_candidates, all_candidates, candidates, in_window, ids_by_candidates}
use Rattle.recurrence.proofs.Ordered.{head-among, insert-all-increases, insert-all-has, insert-all-keeps, keep-increases, keep-among, unique}
use Rattle.recurrence.proofs.Exactly.{ids-increase, ids-exactly}

-- ---- the walk through the days finds each that passes, with fewer than the count before it

tail-among : (z x : ℕ) (l : List ℕ) → among z l ≡ true → among z (x ∷ l) ≡ true
unfolding among any
tail-among z x l h = or_right (eqb x z) (among z l) h

module _ (p past : ℕ → Bool) (count : Option ℕ) (t : ℕ) (yes-t : p t ≡ true) (open-t : (k : ℕ) → k ≤ t → past k ≡ false) where
  finds : (n d seen : ℕ) → d ≤ t → t < d + n → within (seen + count_in p d (t - d)) count ≡ true
      → among t (days_that p past count n d seen) ≡ true
  unfolding days_that
  finds zero d seen low high few = absurd (omega arith)
  finds (suc n) d seen low high few =
      rw (open-t d low, within-less seen (seen + count_in p d (t - d)) count (omega arith) few)
      (go (p d) refl (finds n (suc d)))
    where
      Later : Type 0
      Later = (m : ℕ) → suc d ≤ t → t < suc d + n → within (m + count_in p (suc d) (t - suc d)) count ≡ true
          → among t (days_that p past count n (suc d) m) ≡ true

      one_less : suc d ≤ t → t - d ≡ suc (t - suc d)
      one_less h = omega arith

      after : Later → (m : ℕ) → suc d ≤ t → m + count_in p (suc d) (t - suc d) ≡ seen + count_in p d (t - d)
          → among t (days_that p past count n (suc d) m) ≡ true
      after later m h e = later m h (omega arith) (rw e few)

      go : (b : Bool) → p d ≡ b → Later
          → among t (if b then d ∷ days_that p past count n (suc d) (suc seen) else days_that p past count n (suc d) seen) ≡ true
      go true e later =
          by (ltb d t)
          (λ f.
          let h : suc d ≤ t = ltb-true d t f in
          let counted : count_in p d (t - d) ≡ suc (count_in p (suc d) (t - suc d)) = rw (one_less h) (count-more p d (t - suc d) e) in
          tail-among t d _ (after later (suc seen) h (omega arith)))
          (λ f.
          let same : d ≡ t = omega (arith, ltb-false d t f) in
          rw same (head-among t _))
      go false e later =
          by (ltb d t)
          (λ f.
          let h : suc d ≤ t = ltb-true d t f in
          let counted : count_in p d (t - d) ≡ count_in p (suc d) (t - suc d) = rw (one_less h) (count_less p d (t - suc d) e) in
          after later seen h (omega arith))
          (λ f.
          let same : d ≡ t = omega (arith, ltb-false d t f) in
          absurd (false≢true (sym (subst (λ (k : ℕ). p k ≡ false) same e) ∙ yes-t)))

map-among : (f : ℕ → ℕ) (t : ℕ) (l : List ℕ) → among t l ≡ true → among (f t) (map f l) ≡ true
unfolding among any
map-among f t [] h = absurd (false≢true h)
map-among f t (x ∷ l) h =
    by (eqb x t) (λ e. or_left (eqb (f x) (f t)) (among (f t) (map f l)) (eq-eqb (f x) (f t) (ap f (eqb-true x t e))))
    (λ e. or_right (eqb (f x) (f t)) (among (f t) (map f l)) (map-among f t l (rw e at h)))

-- ---- a rule's date-times are among its candidates

not-after-less : (a b : ℕ) (last : Option ℕ) → a ≤ b → not_after b last ≡ true → not_after a last ≡ true
unfolding not_after
not-after-less a b none h e = refl
not-after-less a b (some last) h e = le-leb a last (omega (arith, leb-true b last e))

module _ (r : RecurrenceRule) (start to x : ℕ) (below : x < to) (g : Given false r start x) where
  here : x ≡ on_day start (x / 86400)
  here = omega (arith, g.timed)

  still_open : not_after (on_day start (x / 86400)) r.until ≡ true → (k : ℕ) → k ≤ x / 86400 → is_past r start to k ≡ false
  unfolding is_past
  still_open ends k h =
      rw (
        lt-leb to (on_day start k) (omega (arith, here)),
        not-after-less (on_day start k) (on_day start (x / 86400)) r.until (omega arith) ends,
      )

  picked-day : picks r start (x / 86400) ≡ true → not_after (on_day start (x / 86400)) r.until ≡ true
      → among x (rule_candidates start to r) ≡ true
  unfolding rule_candidates
  picked-day h ends =
      let low : start / 86400 ≤ x / 86400 = picks-low r start (x / 86400) h in
      subst (λ (y : ℕ). among y (rule_candidates start to r) ≡ true) (sym here)
      (map-among (on_day start) (x / 86400) _
      (finds (falls false r start) (is_past r start to) r.count (x / 86400) g.falling (still_open ends)
      (end_day - start / 86400) (start / 86400) 0 low (omega (arith, g.last)) (rw zero-add g.few)))

  pub rule-candidate : (x ≡ start) ⊎ (among x (rule_candidates start to r) ≡ true)
  unfolding falls
  rule-candidate =
      ⊎_elim (λ (e : eqb (x / 86400) (start / 86400) ≡ true). inl (omega (arith, eqb-true (x / 86400) (start / 86400) e, g.timed)))
      (λ (e : (picks r start (x / 86400) && not_after (on_day start (x / 86400)) r.until) ≡ true).
      inr (picked-day (left _ _ e) (right (picks r start (x / 86400)) _ e)))
      (or-either (eqb (x / 86400) (start / 86400)) (picks r start (x / 86400) && not_after (on_day start (x / 86400)) r.until) g.falling)

-- ---- the candidates have every member of the set

start-candidate : (start to : ℕ) (rs : List RecurrenceRule) → among start (all_candidates start to rs) ≡ true
unfolding all_candidates
start-candidate start to [] = head-among start []
start-candidate start to (r ∷ rs) = insert-all-keeps start (rule_candidates start to r) (all_candidates start to rs) (start-candidate start to rs)

rule-candidates : (start to x : ℕ) (rs : List RecurrenceRule) → x < to → some_gives false rs start x ≡ true
    → among x (all_candidates start to rs) ≡ true
unfolding all_candidates some_gives any
rule-candidates start to x [] h e = absurd (false≢true e)
rule-candidates start to x (r ∷ rs) h e =
    ⊎_elim
    (λ (f : gives false r start x ≡ true).
    ⊎_elim
    (λ (same : x ≡ start). subst (λ (y : ℕ). among y (all_candidates start to (r ∷ rs)) ≡ true) (sym same) (start-candidate start to (r ∷ rs)))
    (λ found. insert-all-has x (rule_candidates start to r) (all_candidates start to rs) found)
    (rule-candidate r start to x h (given-parts false r start x f)))
    (λ (f : some_gives false rs start x ≡ true).
    insert-all-keeps x (rule_candidates start to r) (all_candidates start to rs) (rule-candidates start to x rs h f))
    (or-either (gives false r start x) (some_gives false rs start x) e)

named-among : (x : ℕ) (os : List Override) → any (λ o. eqb o.id x) os ≡ true → among x (map (λ o. o.id) os) ≡ true
unfolding among any
named-among x [] e = absurd (false≢true e)
named-among x (o ∷ os) e =
    by (eqb o.id x) (λ f. or_left (eqb o.id x) (among x (map (λ o. o.id) os)) f)
    (λ f. or_right (eqb o.id x) (among x (map (λ o. o.id) os)) (named-among x os (rw f at e)))

all-candidates-increase : (start to : ℕ) (rs : List RecurrenceRule) → IncreasesFrom 0 (all_candidates start to rs)
unfolding all_candidates
all-candidates-increase start to [] = (omega arith, tt)
all-candidates-increase start to (r ∷ rs) = insert-all-increases (rule_candidates start to r) (all_candidates start to rs) (all-candidates-increase start to rs)

module _ (e : Event) where
  candidates-increase : (to : ℕ) → IncreasesFrom 0 (candidates e to)
  unfolding candidates
  candidates-increase to = insert-all-increases (map (λ o. o.id) e.overrides) _ (all-candidates-increase e.start to e.rules)

  -- a member of the set below the window's end is a candidate
  candidates-have : (to x : ℕ) → x < to → in_set e x ≡ true → among x (candidates e to) ≡ true
  unfolding candidates in_set override_names is_start rule_gives
  candidates-have to x h s =
      ⊎_elim
      (λ (n : override_names e x ≡ true).
      insert-all-has x (map (λ o. o.id) e.overrides) _ (named-among x e.overrides n))
      (λ (g : ((is_start e x || rule_gives e x) && not (excluded_rule_gives e x)) ≡ true).
      insert-all-keeps x (map (λ o. o.id) e.overrides) _
      (⊎_elim
      (λ (same : is_start e x ≡ true).
      subst (λ (y : ℕ). among y (all_candidates e.start to e.rules) ≡ true) (sym (eqb-true x e.start same))
      (start-candidate e.start to e.rules))
      (λ (f : rule_gives e x ≡ true). rule-candidates e.start to x e.rules h f)
      (or-either (is_start e x) (rule_gives e x) (left (is_start e x || rule_gives e x) (not (excluded_rule_gives e x)) g))))
      (or-either (override_names e x) ((is_start e x || rule_gives e x) && not (excluded_rule_gives e x))
      (right (not (override_excludes e x)) (override_names e x || ((is_start e x || rule_gives e x) && not (excluded_rule_gives e x))) s))

  module _ (from to : ℕ) where
    abbrev wanted : ℕ → Bool
    wanted x = in_window from to x && in_set e x

    wanted-candidate : (x : ℕ) → wanted x ≡ true → among x (candidates e to) ≡ true
    unfolding in_window
    wanted-candidate x f =
        candidates-have to x (ltb-true x to (right (leb from x) (ltb x to) (left (in_window from to x) (in_set e x) f))) (right (in_window from to x) (in_set e x) f)

    kept-among : (x : ℕ) → among x (keep wanted (candidates e to)) ≡ wanted x
    kept-among x =
        keep-among wanted x (candidates e to)
        ∙ same_tests (wanted x && among x (candidates e to)) (wanted x) (λ f. left (wanted x) (among x (candidates e to)) f)
        (λ f. both (wanted x) (among x (candidates e to)) f (wanted-candidate x f))

    pub ids-by-candidates : ids e from to ≡ ids_by_candidates e from to
    unfolding ids_by_candidates
    ids-by-candidates =
        unique 0 (ids e from to) (ids_by_candidates e from to) (ids-increase e from to)
        (keep-increases wanted 0 (candidates e to) (candidates-increase to)) (λ x. ids-exactly e from to x ∙ sym (kept-among x))
