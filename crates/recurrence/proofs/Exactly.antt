-- Demand 2 about the definitions: the ids of a window strictly increase, and a date-time is among them exactly when it lies in the
-- window and in the set.
use Prim.Native.Nat.{ℕ, zero, suc, ◌+◌, ◌-◌}
use mathlib.Core.Bool.{Bool, true, not, and_comm, ◌&&◌, ◌||◌}
use mathlib.Core.Logic.{◌↔◌, inl, inr, ⊎_elim}
use mathlib.Core.Path.{◌≡◌, refl, sym, ◌∙◌}
use native.Mathlib.Omega.{arith}
use lib.Dec.{eqb, leb, ltb}
use borrow.Author.Tests.{ltb-true, leb-true, lt-ltb, le-ltb, le-leb, eqb-true, eqb-false, eq-eqb, not-true}
use Rattle.rule.specs.Lists.{any}
use Rattle.rule.proofs.Bools.{by, or_left, or_right, or-either, both, left, right, same_tests}
use Rattle.recurrence.specs.Event.{Event, override_excludes, override_names, is_start, rule_gives, excluded_rule_gives, in_set}
use Rattle.recurrence.specs.Occurs.{Occurs}
use Rattle.recurrence.specs.Inner.Within.{OccursWithin}
use Rattle.recurrence.specs.Inner.Order.{IncreasesFrom, StrictlyIncreases, among}
use Rattle.recurrence.specs.Ids.{seconds_from, ids}
use Rattle.recurrence.specs.Inner.Candidates.{in_window}
use Rattle.recurrence.proofs.Ordered.{from_less, keep-increases, keep-among}

-- ---- the date-times of a stretch of time

seconds-increase : (a n : ℕ) → IncreasesFrom a (seconds_from a n)
unfolding seconds_from
seconds-increase a zero = tt
seconds-increase a (suc n) = (omega arith, seconds-increase (suc a) n)

seconds-among : (x a n : ℕ) → among x (seconds_from a n) ≡ (leb a x && ltb x (a + n))
unfolding seconds_from among any
seconds-among x a zero =
    by (leb a x)
    (λ e. rw (e, le-ltb x (a + 0) (omega (arith, leb-true a x e))))
    (λ e. rw e)
seconds-among x a (suc n) =
    by (eqb a x)
    (λ e.
    let same : a ≡ x = eqb-true a x e in
    rw (e, le-leb a x (omega arith), lt-ltb x (a + suc n) (omega arith)))
    (λ e.
    let there : suc a + n ≡ a + suc n = omega arith in
    let low : leb (suc a) x ≡ leb a x =
    same_tests (leb (suc a) x) (leb a x) (λ f. le-leb a x (omega (arith, leb-true (suc a) x f)))
    (λ f. le-leb (suc a) x (omega (arith, leb-true a x f, eqb-false a x e)))
    in
    rw e (seconds-among x (suc a) n ∙ rw (there, low)))

-- ---- the ids

module _ (e : Event) (from to : ℕ) where
  window-among : (x : ℕ) → among x (seconds_from from (to - from)) ≡ in_window from to x
  unfolding in_window
  window-among x =
      seconds-among x from (to - from)
      ∙ by (leb from x)
      (λ f.
      let low = leb-true from x f in
      rw f
      (same_tests (ltb x (from + (to - from))) (ltb x to) (λ g. lt-ltb x to (omega (arith, low, ltb-true x (from + (to - from)) g)))
      (λ g. lt-ltb x (from + (to - from)) (omega (arith, low, ltb-true x to g)))))
      (λ f. rw f)

  -- the ids of a window strictly increase
  pub ids-increase : StrictlyIncreases (ids e from to)
  unfolding ids
  ids-increase =
      let window = seconds_from from (to - from) in
      keep-increases (in_set e) 0 window (from_less 0 from window (omega arith) (seconds-increase from (to - from)))

  -- a date-time is among them exactly when it lies in the window and in the set
  pub ids-exactly : (x : ℕ) → among x (ids e from to) ≡ (in_window from to x && in_set e x)
  unfolding ids
  ids-exactly x = keep-among (in_set e) x (seconds_from from (to - from)) ∙ rw (window-among x) (and_comm (in_set e x) (in_window from to x))

-- ---- the same in demand 2's words

module _ (e : Event) (x : ℕ) where
  given-or-start : Bool
  given-or-start = (is_start e x || rule_gives e x) && not (excluded_rule_gives e x)

  pub set-occurs : in_set e x ≡ true → Occurs e x
  unfolding in_set is_start given-or-start
  set-occurs s =
      record {
        no_override_excludes = not-true (override_excludes e x) (left (not (override_excludes e x)) (override_names e x || given-or-start) s);
        either =
            ⊎_elim (λ n. inl n)
            (λ (g : given-or-start ≡ true).
            inr (
              ⊎_elim (λ (same : is_start e x ≡ true). inl (eqb-true x e.start same)) (λ f. inr f)
                  (or-either (is_start e x) (rule_gives e x) (left (is_start e x || rule_gives e x) (not (excluded_rule_gives e x)) g)),
              not-true (excluded_rule_gives e x) (right (is_start e x || rule_gives e x) (not (excluded_rule_gives e x)) g),
            ))
            (or-either (override_names e x) given-or-start (right (not (override_excludes e x)) (override_names e x || given-or-start) s));
      }

  occurs-set : Occurs e x → in_set e x ≡ true
  unfolding in_set is_start
  occurs-set o =
      rw o.no_override_excludes
      (⊎_elim (λ (n : override_names e x ≡ true). or_left (override_names e x) _ n)
      (λ g.
      or_right (override_names e x) _
      (rw g.1
      (both (is_start e x || rule_gives e x) true
      (⊎_elim (λ (same : x ≡ e.start). or_left (is_start e x) (rule_gives e x) (eq-eqb x e.start same)) (λ f. or_right (is_start e x) (rule_gives e x) f)
      g.0)
      refl)))
      o.either)

-- Demand 2: the ids of a window strictly increase, and a date-time is among them exactly when it lies in the window, no override
-- excludes it, and either an override names it, or it is the start or a rule gives it, and no excluded rule does.
pub demand-two : (e : Event) (from to : ℕ)
    → StrictlyIncreases (ids e from to) × ((x : ℕ) → (among x (ids e from to) ≡ true) ↔ OccursWithin e from to x)
unfolding in_window
demand-two e from to = (
  ids-increase e from to,
  λ x. (
    λ h.
        let s = sym (ids-exactly e from to x) ∙ h in
        let w = left (in_window from to x) (in_set e x) s in
        record {
          not_before = leb-true from x (left (leb from x) (ltb x to) w);
          before = ltb-true x to (right (leb from x) (ltb x to) w);
          occurs = set-occurs e x (right (in_window from to x) (in_set e x) s);
        },
    λ o.
        ids-exactly e from to x
        ∙ both (in_window from to x) (in_set e x) (both (leb from x) (ltb x to) (le-leb from x o.not_before) (lt-ltb x to o.before))
        (occurs-set e x o.occurs),
  ),
)
