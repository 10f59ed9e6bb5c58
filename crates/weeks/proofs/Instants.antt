-- Instants as natural numbers: their order, the weeks of a range, Mondays, and the week of an instant.
use Rattle.std.specs.Prelude.{if◌then◌else◌}
use Prim.Native.Nat.{ℕ, suc, ◌+◌, ◌*◌, ◌-◌, ◌/◌, ◌%◌, ◌<◌, ◌≤◌, ◌^◌}
use mathlib.Core.Bool.{true, false, ◌&&◌}
use mathlib.Core.Logic.{◌⊎◌, inl, inr, ⊎_elim}
use mathlib.Core.Path.{◌≡◌, refl, sym, ap, ◌∙◌}
use native.Mathlib.Omega.{arith}
use lib.Dec.{ltb, leb, eqb}
use lib.IntN.{ℤ, pos, negsuc, ◌+ℤ◌, ◌-ℤ◌}
use lib.Signed.{lt_z, le_z}
use mir.Syntax.{w64}
use mir.Val.{SFits}
use borrow.Author.Tests.{ltb-true, ltb-false, leb-true, leb-false, eqb-true, eqb-false, lt-ltb, le-ltb, le-leb, lt-leb, eq-eqb, ne_eqb}
use Rattle.signed.specs.Parts.{pos_part, neg_part}
use Rattle.signed.proofs.Parts.{lt-parts, not-lt-parts, le_parts, not-le-parts, sum-parts, diff-parts, fit-neg, subℕ-neg}
use Rattle.rule.proofs.Bools.{by}
use Rattle.weeks.specs.Weeks.{modulo, is_monday, weeks_in, week_start, in_week}
use Rattle.weeks.specs.Inner.Marks.{above, up, first_of}

-- ---- an order of instants as one of natural numbers

module _ (base : ℕ) where
  abbrev pub Low : ℤ → Type 0
  Low t = neg_part t ≤ base

  pub lt_up : (a b : ℤ) → Low a → Low b → lt_z a b ≡ ltb (above base a) (above base b)
  lt_up a b f g =
      by (lt_z a b)
      (λ e. e ∙ sym (lt-ltb (above base a) (above base b) (omega (arith, lt-parts a b e))))
      (λ e. e ∙ sym (le-ltb (above base a) (above base b) (omega (arith, not-lt-parts a b e))))

  pub le_up : (a b : ℤ) → Low a → Low b → le_z a b ≡ leb (above base a) (above base b)
  le_up a b f g =
      by (le_z a b)
      (λ e. e ∙ sym (le-leb (above base a) (above base b) (omega (arith, le_parts a b e))))
      (λ e. e ∙ sym (lt-leb (above base a) (above base b) (omega (arith, not-le-parts a b e))))

-- ---- where a week begins

less : (a : ℤ) (k : ℕ) → neg_part (a +ℤ pos k) ≤ neg_part a
less (pos a) k = omega arith
less (negsuc a) k = subℕ-neg k (suc a)

module _ (base : ℕ) (from : ℤ) (i : ℕ) (f : Low base from) where
  pub start-low : Low base (week_start from i)
  unfolding week_start
  start-low = let h = less from (604800 * i) in omega arith

  pub up_start : above base (week_start from i) ≡ above base from + 604800 * i
  unfolding week_start
  up_start =
      let h = less from (604800 * i) in
      let e : pos_part (from +ℤ pos (604800 * i)) + neg_part from + 0 ≡ neg_part (from +ℤ pos (604800 * i)) + pos_part from + 604800 * i = sum-parts from (pos (604800 * i)) in
      omega arith

-- ---- a number has one part that is not 0

pub one-part : (z : ℤ) → (pos_part z ≡ 0) ⊎ (neg_part z ≡ 0)
one-part (pos n) = inr refl
one-part (negsuc n) = inl refl

-- ---- the week of an instant

past : (b x i : ℕ) → b + 604800 * i ≤ x → ((x - b) / 604800 ≡ i → ⊥) → b + 604800 * suc i ≤ x
past b x i h k = by (ltb x (b + 604800 * suc i)) (λ e. absurd (k (omega (arith, ltb-true x (b + 604800 * suc i) e)))) (λ e. ltb-false x (b + 604800 * suc i) e)

natural : (i b x : ℕ) → (leb (b + 604800 * i) x && ltb x (b + 604800 * suc i)) ≡ (if ltb x b then false else eqb ((x - b) / 604800) i)
natural i b x =
    by (ltb x b)
    (λ e. let h = ltb-true x b e in rw (e, lt-leb (b + 604800 * i) x (omega arith)))
    (λ e. let h = ltb-false x b e in rw e (by (eqb ((x - b) / 604800) i)
    (λ d. let k = eqb-true ((x - b) / 604800) i d in rw (d, le-leb (b + 604800 * i) x (omega arith), lt-ltb x (b + 604800 * suc i) (omega arith)))
    (λ d. let k = eqb-false ((x - b) / 604800) i d in rw d (by (leb (b + 604800 * i) x)
    (λ u. let v = leb-true (b + 604800 * i) x u in rw (u, le-ltb x (b + 604800 * suc i) (past b x i v k)))
    (λ u. rw u)))))

-- above any base that is low enough for both
pub week-of : (base : ℕ) (from t : ℤ) → Low base from → Low base t → (i : ℕ)
    → in_week from i t ≡ (if ltb (above base t) (above base from) then false else eqb ((above base t - above base from) / 604800) i)
unfolding in_week
week-of base from t a b i =
    rw (
      le_up base (week_start from i) t (start-low base from i a) b,
      lt_up base t (week_start from (suc i)) b (start-low base from (suc i) a),
      up_start base from i a,
      up_start base from (suc i) a,
    ) (natural i (above base from) (above base t))

-- An instant of which nothing is known may lie before all that an i64 can say; so does no range that has seconds before it.
module _ (from t : ℤ) (f : SFits w64 from) (positive : 0 < up from) (i : ℕ) where
  none : 2 ^ 63 < neg_part t → le_z (week_start from i) t ≡ false
  none b =
      by (le_z (week_start from i) t)
      (λ e.
      let a = start-low (2 ^ 63) from i (fit-neg from f) in
      ⊎_elim (λ z. absurd (omega (arith, le_parts (week_start from i) t e))) (λ z. absurd (omega arith)) (one-part t))
      (λ e. e)

  early : 2 ^ 63 < neg_part t → in_week from i t ≡ (if ltb (up t) (up from) then false else eqb (first_of (up from) (up t)) i)
  unfolding in_week
  early b =
      let before : ltb (up t) (up from) ≡ true = lt-ltb (up t) (up from) (⊎_elim (λ z. omega arith) (λ z. absurd (omega arith)) (one-part t)) in
      rw (none b, before)

  pub in-week : in_week from i t ≡ (if ltb (up t) (up from) then false else eqb (first_of (up from) (up t)) i)
  in-week =
      by (leb (neg_part t) (2 ^ 63)) (λ e. week-of (2 ^ 63) from t (fit-neg from f) (leb-true (neg_part t) (2 ^ 63) e) i) (λ e. early (leb-false (neg_part t) (2 ^ 63) e))

-- ---- a Monday; 55,808 is 345,600 + 2^63 modulo 604,800

same_test : (a b c d : ℕ) → (a ≡ b → c ≡ d) → (c ≡ d → a ≡ b) → eqb a b ≡ eqb c d
same_test a b c d f g =
    by (eqb a b) (λ e. e ∙ sym (eq-eqb c d (f (eqb-true a b e)))) (λ e. e ∙ sym (ne_eqb c d (λ h. eqb-false a b e (g h))))

pub monday-up : (t : ℤ) → SFits w64 t → is_monday t ≡ eqb (up t % 604800) 55808
unfolding modulo
monday-up (pos n) f = same_test (n % 604800) 345600 ((2 ^ 63 + n - 0) % 604800) 55808 (λ h. omega arith) (λ h. omega arith)
monday-up (negsuc n) f =
    let g = f.sfits in
    same_test (604799 - n % 604800) 345600 ((2 ^ 63 + 0 - suc n) % 604800) 55808 (λ h. omega arith) (λ h. omega arith)

-- ---- the weeks of a range

module _ (base : ℕ) (from to : ℤ) (f : Low base from) (g : Low base to) where
  pub seconds-up : pos_part (to -ℤ from) ≡ above base to - above base from
  seconds-up =
      let d = diff-parts to from in
      ⊎_elim (λ h. omega arith) (λ h. omega arith) (one-part (to -ℤ from))

  pub weeks-up : weeks_in from to ≡ (above base to - above base from) / 604800
  unfolding weeks_in
  weeks-up = ap (λ (n : ℕ). n / 604800) seconds-up

-- a Monday has seconds before it
pub monday-positive : (from : ℤ) → SFits w64 from → is_monday from ≡ true → 0 < up from
monday-positive from f e = omega (arith, eqb-true (up from % 604800) 55808 (sym (monday-up from f) ∙ e))
