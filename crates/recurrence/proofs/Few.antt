-- How many ids a window has: at most one for each day of its length, one more, and one for each override.
use Rattle.std.specs.Prelude.{if◌then◌else◌}
use Prim.Native.Nat.{ℕ, zero, suc, ◌+◌, ◌-◌, ◌*◌, ◌/◌, ◌%◌, ◌<◌, ◌≤◌}
use mathlib.Core.Bool.{Bool, true, false, false≢true, ◌||◌}
use mathlib.Core.List.{List, [], ◌∷◌}
use mathlib.Core.Logic.{◌⊎◌, inl, inr, ⊎_elim}
use mathlib.Core.Path.{◌≡◌, refl, ap}
use native.Mathlib.Omega.{arith}
use lib.Dec.{eqb, ltb}
use lib.ListN.{length}
use borrow.Author.Tests.{ltb-true, ltb-false, eqb-true, eq-eqb, ne_eqb}
use Rattle.rule.specs.Written.{RecurrenceRule}
use Rattle.rule.specs.Lists.{any, count_in}
use Rattle.rule.specs.Gives.{gives}
use Rattle.rule.proofs.Bools.{by, or-either}
use Rattle.rule.proofs.GivesLaws.{given-parts}
use Rattle.rule.proofs.Counting.{count_none, count-more, count_less, count-nothing}
use Rattle.recurrence.specs.Event.{Override, Event, override_names, some_gives, rule_gives, in_set}
use Rattle.recurrence.specs.Ids.{seconds_from, keep, ids}
use Rattle.recurrence.proofs.Exactly.{set-occurs}

-- ---- the length as a count

pub keep-length : (p : ℕ → Bool) (a n : ℕ) → length (keep p (seconds_from a n)) ≡ count_in p a n
unfolding keep seconds_from count_in
keep-length p a zero = refl
keep-length p a (suc n) = go (p a) (keep-length p (suc a) n)
  where
    go : (b : Bool) → length (keep p (seconds_from (suc a) n)) ≡ count_in p (suc a) n
        → length (if b then a ∷ keep p (seconds_from (suc a) n) else keep p (seconds_from (suc a) n)) ≡ (if b then 1 else 0) + count_in p (suc a) n
    go true h = omega arith
    go false h = omega arith

-- what passes one test passes one of two others
module _ (p q r : ℕ → Bool) (h : (x : ℕ) → p x ≡ true → (q x ≡ true) ⊎ (r x ≡ true)) where
  one_of : (a : ℕ) → (if p a then 1 else 0) ≤ (if q a then 1 else 0) + (if r a then 1 else 0)
  one_of a =
      by (p a)
      (λ e. ⊎_elim (λ (f : q a ≡ true). rw (e, f) (omega arith)) (λ (f : r a ≡ true). rw (e, f) (omega arith)) (h a e))
      (λ e. rw e (omega arith))

  count-either : (a n : ℕ) → count_in p a n ≤ count_in q a n + count_in r a n
  unfolding count_in
  count-either a zero = omega arith
  count-either a (suc n) = omega (arith, one_of a, count-either (suc a) n)

-- ---- those of one time of day

abbrev timed : ℕ → ℕ → Bool
timed t x = eqb (x % 86400) t

-- the next of them comes k seconds after a
count-timed : (t a n k : ℕ) → k < 86400 → (a + k) % 86400 ≡ t → 86400 * count_in (timed t) a n + k ≤ n + 86399
count-timed t a zero k below next = omega (arith, count_none (timed t) a)
count-timed t a (suc n) zero below next =
    let here = count-more (timed t) a n (eq-eqb (a % 86400) t (omega arith)) in
    let rest = count-timed t (suc a) n 86399 (omega arith) (omega arith) in
    omega arith
count-timed t a (suc n) (suc k) below next =
    let here = count_less (timed t) a n (ne_eqb (a % 86400) t (λ e. omega arith)) in
    let rest = count-timed t (suc a) n k (omega arith) (omega arith) in
    omega arith

few-timed : (t a n : ℕ) → t < 86400 → count_in (timed t) a n ≤ n / 86400 + 1
few-timed t a n day =
    by (ltb t (a % 86400))
    (λ e. let late = ltb-true t (a % 86400) e in omega (arith, count-timed t a n (t + 86400 - a % 86400) (omega arith) (omega arith)))
    (λ e. let soon = ltb-false t (a % 86400) e in omega (arith, count-timed t a n (t - a % 86400) (omega arith) (omega arith)))

-- ---- the names of overrides

count-name : (y a n : ℕ) → count_in (λ (x : ℕ). eqb y x) a n ≤ 1
count-name y a zero = omega (arith, count_none (λ (x : ℕ). eqb y x) a)
count-name y a (suc n) =
    by (eqb y a)
    (λ e.
    let same = eqb-true y a e in
    let rest = count-nothing (λ (x : ℕ). eqb y x) (suc a) n (λ j low high. ne_eqb y j (λ f. omega arith)) in
    omega (arith, count-more (λ (x : ℕ). eqb y x) a n e))
    (λ e. omega (arith, count_less (λ (x : ℕ). eqb y x) a n e, count-name y (suc a) n))

few-names : (os : List Override) (a n : ℕ) → count_in (λ (x : ℕ). any (λ (o : Override). eqb o.id x) os) a n ≤ length os
unfolding any
few-names [] a n = omega (arith, count-nothing (λ (x : ℕ). false) a n (λ j low high. refl))
few-names (o ∷ os) a n =
    let rest = few-names os a n in
    let parts =
    count-either (λ (x : ℕ). eqb o.id x || any (λ (o : Override). eqb o.id x) os) (λ (x : ℕ). eqb o.id x)
    (λ (x : ℕ). any (λ (o : Override). eqb o.id x) os) (λ x f. or-either _ _ f) a n
    in
    omega (arith, count-name o.id a n)

-- ---- the ids

-- what a rule gives has the start's time of day
rules-timed : (rs : List RecurrenceRule) (start x : ℕ) → some_gives false rs start x ≡ true → x % 86400 ≡ start % 86400
unfolding some_gives any
rules-timed [] start x e = absurd (false≢true e)
rules-timed (r ∷ rs) start x e =
    ⊎_elim (λ (f : gives false r start x ≡ true). (given-parts false r start x f).timed)
    (λ (f : some_gives false rs start x ≡ true). rules-timed rs start x f)
    (or-either (gives false r start x) (some_gives false rs start x) e)

module _ (e : Event) where
  timed-or-named : (x : ℕ) → in_set e x ≡ true → (timed (e.start % 86400) x ≡ true) ⊎ (override_names e x ≡ true)
  unfolding rule_gives
  timed-or-named x h =
      ⊎_elim (λ n. inr n)
      (λ g.
      inl (eq-eqb (x % 86400) (e.start % 86400)
      (⊎_elim (λ (same : x ≡ e.start). ap (λ (y : ℕ). y % 86400) same) (λ f. rules-timed e.rules e.start x f) g.0)))
      (set-occurs e x h).either

  -- what a rule gives, and the start, has the start's time of day; every other member of the set is the name of an override
  pub few-ids : (from to : ℕ) → length (ids e from to) ≤ (to - from) / 86400 + 1 + length e.overrides
  unfolding ids override_names
  few-ids from to =
      let ruled = few-timed (e.start % 86400) from (to - from) (omega arith) in
      let named = few-names e.overrides from (to - from) in
      let parts = count-either (in_set e) (timed (e.start % 86400)) (override_names e) timed-or-named from (to - from) in
      omega (arith, keep-length (in_set e) from (to - from))
