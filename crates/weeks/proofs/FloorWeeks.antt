-- Week i of a range from a Monday is the i-th after the Monday's own, by floor division.
use Rattle.std.specs.Prelude.{if◌then◌else◌}
use Prim.Native.Nat.{ℕ, suc, ◌+◌, ◌*◌, ◌-◌, ◌/◌, ◌%◌, ◌<◌, ◌≤◌}
use mathlib.Core.Bool.{Bool, true, false}
use mathlib.Core.Logic.{◌↔◌, ⊎_elim}
use mathlib.Core.Path.{◌≡◌, refl, sym, ap, ◌∙◌}
use native.Mathlib.Omega.{arith}
use lib.Dec.{ltb, eqb}
use lib.IntN.{ℤ, pos, negsuc, ◌+ℤ◌, ◌-ℤ◌}
use borrow.Author.Tests.{ltb-false, le-ltb, eqb-true, eq-eqb}
use Rattle.signed.specs.Parts.{pos_part, neg_part}
use Rattle.signed.proofs.Parts.{sum-parts, diff-parts, parts-eq, false-true}
use Rattle.weeks.specs.Weeks.{is_monday, in_week}
use Rattle.weeks.specs.Calendar.{floor_weeks, week_of}
use Rattle.weeks.specs.Inner.Marks.{above}
use Rattle.weeks.proofs.Instants.{one-part, week-of}
use Rattle.weeks.proofs.Theorems.{whole}

floor-parts : (z : ℤ) (k : ℕ) → neg_part z ≤ 604800 * k → pos_part (floor_weeks z) + k ≡ neg_part (floor_weeks z) + (604800 * k + pos_part z - neg_part z) / 604800
unfolding floor_weeks
floor-parts (pos n) k h = omega arith
floor-parts (negsuc n) k h = omega arith

-- the week of t, k weeks up
week-parts : (t : ℤ) (k : ℕ) → neg_part t < k → pos_part (week_of t) + k ≡ neg_part (week_of t) + (above (604800 * k) t - 345600) / 604800
unfolding week_of
week-parts t k h =
    let z = t -ℤ pos 345600 in
    let d : pos_part z + neg_part t + 345600 ≡ neg_part z + pos_part t + 0 = diff-parts t (pos 345600) in
    let low : neg_part z ≤ 604800 * k = ⊎_elim (λ p. omega arith) (λ p. omega arith) (one-part z) in
    let e : 604800 * k + pos_part z - neg_part z ≡ above (604800 * k) t - 345600 = omega arith in
    rw (← e) (floor-parts z k low)

-- ---- over natural numbers: b is a Monday, x an instant

inside : (c d : Bool) → (if c then false else d) ≡ true → (c ≡ false) × (d ≡ true)
inside true d e = false-true e
inside false d e = (refl, e)

module _ (b x i : ℕ) (monday : b % 604800 ≡ 345600) (far : 345600 ≤ x) where
  weeks-on : b ≤ x → (x - b) / 604800 ≡ i → (x - 345600) / 604800 ≡ (b - 345600) / 604800 + i
  weeks-on h e = omega arith

  weeks-back : (x - 345600) / 604800 ≡ (b - 345600) / 604800 + i → (b ≤ x) × ((x - b) / 604800 ≡ i)
  weeks-back e = (omega arith, omega arith)

-- ---- the law

module _ (from t : ℤ) (i : ℕ) (m : is_monday from ≡ true) where
  k : ℕ
  k = suc (neg_part from + neg_part t)

  in-week-at : in_week from i t ≡ (if ltb (above (604800 * k) t) (above (604800 * k) from) then false else eqb ((above (604800 * k) t - above (604800 * k) from) / 604800) i)
  unfolding k
  in-week-at = week-of (604800 * k) from t (omega arith) (omega arith) i

  monday : above (604800 * k) from % 604800 ≡ 345600
  unfolding k
  monday = whole from m k (omega arith)

  far : 345600 ≤ above (604800 * k) t
  unfolding k
  far = omega arith

  from_parts : pos_part (week_of from) + k ≡ neg_part (week_of from) + (above (604800 * k) from - 345600) / 604800
  unfolding k
  from_parts = week-parts from k (omega arith)

  its-parts : pos_part (week_of t) + k ≡ neg_part (week_of t) + (above (604800 * k) t - 345600) / 604800
  unfolding k
  its-parts = week-parts t k (omega arith)

  sum : pos_part (week_of from +ℤ pos i) + neg_part (week_of from) + 0 ≡ neg_part (week_of from +ℤ pos i) + pos_part (week_of from) + i
  sum = sum-parts (week_of from) (pos i)

  there : in_week from i t ≡ true → week_of t ≡ week_of from +ℤ pos i
  there e =
      let p = inside _ _ (sym in-week-at ∙ e) in
      let on = weeks-on _ _ i monday far (ltb-false _ _ p.0) (eqb-true _ _ p.1) in
      parts-eq (week_of t) (week_of from +ℤ pos i) (omega (arith, on, from_parts, its-parts, sum))

  back-again : week_of t ≡ week_of from +ℤ pos i → in_week from i t ≡ true
  back-again e =
      let p = weeks-back (above (604800 * k) from) (above (604800 * k) t) i monday far (omega (arith, ap pos_part e, ap neg_part e, from_parts, its-parts, sum)) in
      rw (in-week-at, le-ltb _ _ p.0, eq-eqb _ _ p.1)

  pub in-week-floor : (in_week from i t ≡ true) ↔ (week_of t ≡ week_of from +ℤ pos i)
  in-week-floor = (there, back-again)
