-- Local seconds from 1970, as the sheet has them, and from 1600, as the definitions count them, in a valid window.
use Prim.Native.Nat.{ℕ, ◌+◌, ◌-◌, ◌<◌, ◌≤◌}
use mathlib.Core.Bool.{true}
use mathlib.Core.Path.{◌≡◌, ap}
use native.Mathlib.Omega.{arith}
use lib.IntN.{ℤ, pos, negsuc, neg_ℤ, sub_ℕ, ◌+ℤ◌}
use lib.Signed.{le_z, lt_z}
use Rattle.signed.specs.Parts.{pos_part, neg_part}
use Rattle.signed.proofs.Parts.{le_parts, lt-parts, parts-le, parts-lt, parts-eq, subℕ-parts, sum-parts}
use Rattle.rule.proofs.Bools.{left, right}
use Rattle.call_definitions.specs.Window.{epoch, since1600, since1970, valid_window}

-- ---- one way and back

pub back-1600 : (x : ℕ) → since1600 (since1970 x) ≡ x
unfolding since1600 since1970
back-1600 x = ap pos_part (parts-eq (sub_ℕ x epoch +ℤ pos epoch) (pos x) (omega (arith, sum-parts (sub_ℕ x epoch) (pos epoch), subℕ-parts x epoch)))

since-parts : (t : ℤ) → neg_part t ≤ epoch → since1600 t + neg_part t ≡ pos_part t + epoch
unfolding since1600
since-parts t h =
    let natural = parts-eq (t +ℤ pos epoch) (pos (pos_part t + epoch - neg_part t)) (omega (arith, sum-parts t (pos epoch))) in
    let is = ap pos_part natural in
    omega (arith, is)

pub back-1970 : (t : ℤ) → neg_part t ≤ epoch → since1970 (since1600 t) ≡ t
unfolding since1970
back-1970 t h = parts-eq (sub_ℕ (since1600 t) epoch) t (omega (arith, subℕ-parts (since1600 t) epoch, since-parts t h))

pub earlier : (x y : ℕ) → x < y → lt_z (since1970 x) (since1970 y) ≡ true
unfolding since1970
earlier x y h = parts-lt (sub_ℕ x epoch) (sub_ℕ y epoch) (omega (arith, subℕ-parts x epoch, subℕ-parts y epoch))

-- ---- a valid window

first-low : (t : ℤ) → le_z (neg_ℤ (pos 11644473600)) t ≡ true → neg_part t ≤ 11644473600
first-low (pos n) e = omega arith
first-low (negsuc n) e = omega (arith, le_parts (neg_ℤ (pos 11644473600)) (negsuc n) e)

module _ (from to : ℤ) (valid : valid_window from to ≡ true) where
  from_low : neg_part from ≤ 11644473600
  unfolding valid_window
  from_low = first-low from (left (le_z (neg_ℤ (pos 11644473600)) from) _ valid)

  in_order : pos_part from + neg_part to ≤ pos_part to + neg_part from
  unfolding valid_window
  in_order = le_parts from to (left (le_z from to) (le_z to (pos 253370764800)) (right (le_z (neg_ℤ (pos 11644473600)) from) _ valid))

  to_low : neg_part to ≤ epoch
  to_low = low from to from_low in_order
    where
      low : (from to : ℤ) → neg_part from ≤ 11644473600 → pos_part from + neg_part to ≤ pos_part to + neg_part from → neg_part to ≤ epoch
      low from (pos n) a b = omega arith
      low from (negsuc n) a b = omega arith

  pub low-enough : (t : ℤ) → le_z from t ≡ true → neg_part t ≤ epoch
  low-enough (pos n) e = omega arith
  low-enough (negsuc n) e = omega (arith, le_parts from (negsuc n) e, from_low)

  -- in the window by the one count and by the other
  pub after_first : (x : ℕ) → since1600 from ≤ x → le_z from (since1970 x) ≡ true
  unfolding since1970
  after_first x h = parts-le from (sub_ℕ x epoch) (omega (arith, subℕ-parts x epoch, since-parts from (omega (arith, from_low))))

  pub before_last : (x : ℕ) → x < since1600 to → lt_z (since1970 x) to ≡ true
  unfolding since1970
  before_last x h = parts-lt (sub_ℕ x epoch) to (omega (arith, subℕ-parts x epoch, since-parts to to_low))

  pub first_below : (t : ℤ) → le_z from t ≡ true → since1600 from ≤ since1600 t
  first_below t e = omega (arith, le_parts from t e, since-parts from (omega (arith, from_low)), since-parts t (low-enough t e))

  pub last-above : (t : ℤ) → le_z from t ≡ true → lt_z t to ≡ true → since1600 t < since1600 to
  last-above t e f = omega (arith, lt-parts t to f, since-parts t (low-enough t e), since-parts to to_low)
