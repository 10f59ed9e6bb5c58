-- A stretch has no more ids than days and overrides.
use Rattle.std.specs.Prelude.{if◌then◌else◌}
use Prim.Native.Nat.{ℕ, zero, suc, ◌+◌, ◌-◌, ◌/◌, ◌%◌, ◌≤◌}
use mathlib.Core.Bool.{Bool, true, false, false≢true, ◌||◌}
use mathlib.Core.List.{List, [], ◌∷◌}
use mathlib.Core.Path.{◌≡◌, refl, sym, ap, ◌∙◌, subst}
use native.Mathlib.Omega.{arith}
use lib.Dec.{eqb}
use lib.ListN.{length, length-map}
use borrow.Author.Tests.{eqb-true, ne_eqb}
use Rattle.rule.specs.Gives.{on_day}
use Rattle.rule.proofs.Bools.{by}
use Rattle.dates.specs.Inner.Overrides.{counts, is_named}
use Rattle.dates.specs.Inner.Loaded.{Loaded, by_rules, is_in}
use Rattle.window.specs.Inner.Next.{day_from}
use Rattle.window.specs.Inner.Lists.{list_in}
use Rattle.window.proofs.HitLaws.{FromDay, from-day, day-order}
use Rattle.window.proofs.ListLaws.{list-nothing, list-most}
use Rattle.listing.proofs.SecondLaws.{days-listed}

-- what passes p passes t or m
list-either : (p t m : ℕ → Bool) → ((x : ℕ) → p x ≡ true → t x ≡ false → m x ≡ true) → (a n : ℕ) → length (list_in p a n) ≤ length (list_in t a n) + length (list_in m a n)
unfolding list_in
list-either p t m h a zero = omega arith
list-either p t m h a (suc n) = go (p a) (t a) (m a) refl refl refl (list-either p t m h (suc a) n)
  where
    go : (b c d : Bool) → p a ≡ b → t a ≡ c → m a ≡ d → length (list_in p (suc a) n) ≤ length (list_in t (suc a) n) + length (list_in m (suc a) n)
        → length (if b then a ∷ list_in p (suc a) n else list_in p (suc a) n)
        ≤ length (if c then a ∷ list_in t (suc a) n else list_in t (suc a) n) + length (if d then a ∷ list_in m (suc a) n else list_in m (suc a) n)
    go true true true e f g k = omega arith
    go true true false e f g k = omega arith
    go true false true e f g k = omega arith
    go true false false e f g k = absurd (false≢true (sym g ∙ h a e f))
    go false true true e f g k = omega arith
    go false true false e f g k = omega arith
    go false false true e f g k = omega arith
    go false false false e f g k = omega arith

-- ---- one for each day

is_timed : ℕ → ℕ → Bool
is_timed start x = if eqb (x % 86400) (start % 86400) then true else false

timed-most : (start from to : ℕ) → from ≤ to → length (list_in (is_timed start) from (to - from)) ≤ day_from start to - day_from start from
unfolding is_timed
timed-most start from to order =
    let n = day_from start to - day_from start from in
    let days = day-order start from to order in
    let whole : day_from start from + n ≡ day_from start to = omega arith in
    let same = days-listed start (is_timed start) (λ d. true) (λ x. refl) n from to (day_from start from) order (from-day start from) (subst (FromDay start to) (sym whole) (from-day start to)) in
    let long : length (list_in (is_timed start) from (to - from)) ≡ length (list_in (λ d. true) (day_from start from) n) = ap length same ∙ length-map (list_in (λ d. true) (day_from start from) n) (on_day start) in
    omega (arith, long, list-most (λ d. true) (day_from start from) n)

-- ---- one for each override

single : (i a n : ℕ) → length (list_in (λ x. eqb i x) a n) ≤ 1
unfolding list_in
single i a zero = omega arith
single i a (suc n) =
    by (eqb i a)
    (λ e.
    let same : i ≡ a = eqb-true i a e in
    let none : list_in (λ x. eqb i x) (suc a) n ≡ [] = list-nothing (λ x. eqb i x) (suc a) n (λ j low high. ne_eqb i j (λ k. omega arith)) in
    rw (e, none) (omega arith))
    (λ e. rw e (single i (suc a) n))

named-most : (ids : List ℕ) (gone : List Bool) (a n : ℕ) → length (list_in (is_named false ids gone) a n) ≤ length ids
unfolding is_named counts
named-most [] gone a n =
    let none : list_in (is_named false [] gone) a n ≡ [] = list-nothing (is_named false [] gone) a n (λ j low high. refl) in
    rw none (omega arith)
named-most (i ∷ ids) [] a n =
    let none : list_in (is_named false (i ∷ ids) []) a n ≡ [] = list-nothing (is_named false (i ∷ ids) []) a n (λ j low high. refl) in
    rw none (omega arith)
named-most (i ∷ ids) (g ∷ gone) a n =
    let parts = list-either (is_named false (i ∷ ids) (g ∷ gone)) (λ x. eqb i x) (is_named false ids gone) (λ x e f. go (eqb i x) (is_named false ids gone x) e f) a n in
    omega (arith, parts, single i a n, named-most ids gone a n)
  where
    go : (b c : Bool) → (b || c) ≡ true → b ≡ false → c ≡ true
    go true c e f = absurd (false≢true (sym f))
    go false c e f = e

-- ---- both

module _ (l : Loaded) where
  either : (x : ℕ) → is_in l x ≡ true → is_timed l.start x ≡ false → is_named false l.ids l.gone x ≡ true
  unfolding is_in is_timed
  either x e f = go (is_named true l.ids l.gone x) (is_named false l.ids l.gone x) (eqb (x % 86400) (l.start % 86400)) (by_rules l (x / 86400)) e f
    where
      go : (a b c d : Bool) → (if a then false else if b then true else if c then d else false) ≡ true → (if c then true else false) ≡ false → b ≡ true
      go true b c d e f = absurd (false≢true e)
      go false true c d e f = refl
      go false false true d e f = absurd (false≢true (sym f))
      go false false false d e f = absurd (false≢true e)

  pub few-ids : (from to : ℕ) → from ≤ to → length (list_in (is_in l) from (to - from)) ≤ (day_from l.start to - day_from l.start from) + length l.ids
  few-ids from to order =
      let parts = list-either (is_in l) (is_timed l.start) (is_named false l.ids l.gone) either from (to - from) in
      omega (arith, parts, timed-most l.start from to order, named-most l.ids l.gone from (to - from))
