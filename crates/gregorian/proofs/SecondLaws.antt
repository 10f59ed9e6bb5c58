-- Floor division of signed seconds by parts, and the round trips between seconds and moments.
use Prim.Native.Nat.{ℕ, zero, suc, ◌+◌, ◌-◌, ◌*◌, ◌/◌, ◌%◌, ◌^◌, ◌<◌, ◌≤◌}
use mathlib.Core.Bool.{Bool, true, false}
use mathlib.Core.Path.{◌≡◌, refl, sym, ap, ◌∙◌}
use native.Mathlib.Omega.{arith}
use lib.Dec.{ltb}
use borrow.Author.Tests.{ltb-false}
use lib.IntN.{ℤ, pos, negsuc, neg_ℤ, nat_abs, sub_ℕ, ◌+ℤ◌, ◌-ℤ◌, ◌*ℤ◌}
use Rattle.signed.specs.Parts.{pos_part, neg_part}
use Rattle.signed.proofs.Parts.{parts-eq, sum-parts, diff-parts, subℕ-parts, neg-pos, neg-neg, subℕ-above, subℕ-neg, parts-abs}
use Rattle.gregorian.specs.declared.Moment.{Moment}
use Rattle.gregorian.specs.Days.{day_count}
use Rattle.gregorian.specs.Inner.Seconds.{floor_div, floor_mod, epoch_day, InCalendar, moment_of, seconds_of}

-- ---- division rounded down

pub floor-below : (t : ℤ) → floor_mod t 86400 < 86400
unfolding floor_mod
floor-below (pos n) = omega arith
floor-below (negsuc n) = omega arith

floor-parts : (t : ℤ) → 86400 * pos_part (floor_div t 86400) + floor_mod t 86400 + neg_part t ≡ 86400 * neg_part (floor_div t 86400) + pos_part t
unfolding floor_div floor_mod
floor-parts (pos n) = omega arith
floor-parts (negsuc n) = omega arith

times-pos : (q : ℤ) (k : ℕ) → pos_part (q *ℤ pos k) ≡ pos_part q * k
times-pos (pos a) k = refl
times-pos (negsuc a) k = neg-pos (pos (suc a * k)) ∙ none k
  where
    none : (k : ℕ) → 0 ≡ 0 * k
    none k = omega arith

times-neg : (q : ℤ) (k : ℕ) → neg_part (q *ℤ pos k) ≡ neg_part q * k
times-neg (pos a) k = omega arith
times-neg (negsuc a) k = neg-neg (pos (suc a * k))

-- seconds → day and second → seconds, in the integers: what makes it a division rounded down
pub floor-whole : (t : ℤ) → floor_div t 86400 *ℤ pos 86400 +ℤ pos (floor_mod t 86400) ≡ t
floor-whole t =
    parts-eq _ _
    (omega (arith, sum-parts (floor_div t 86400 *ℤ pos 86400) (pos (floor_mod t 86400)), times-pos (floor_div t 86400) 86400, times-neg (floor_div t 86400) 86400, floor-parts t))

-- ---- counted from 1600

-- a sum with a natural number that is large enough
above : (q : ℤ) (k : ℕ) → neg_part q ≤ k → pos_part (q +ℤ pos k) ≡ (pos_part q + k) - neg_part q
above (pos a) k h = omega arith
above (negsuc a) k h = subℕ-above k (suc a) h ∙ ap (λ (n : ℕ). n - suc a) (omega arith)

-- a moment's seconds, counted from 1600 and then from 1970
pub counted : (m : Moment) → seconds_of m ≡ sub_ℕ (m.day * 86400 + m.second) 11676096000
unfolding seconds_of
counted m =
    let days = pos m.day -ℤ pos epoch_day in
    parts-eq _ _
    (omega (arith, sum-parts (days *ℤ pos 86400) (pos m.second), times-pos days 86400, times-neg days 86400, diff-parts (pos m.day) (pos epoch_day), subℕ-parts (m.day * 86400 + m.second) 11676096000))

quotient-low : (t : ℤ) → neg_part t ≤ 11676096000 → neg_part (floor_div t 86400) ≤ 135140
unfolding floor_div
quotient-low (pos n) h = omega arith
quotient-low (negsuc n) h = omega arith

module _ (t : ℤ) (h : InCalendar t) where
  pub day-since : ((pos_part t + 11676096000) - neg_part t) / 86400 ≡ (moment_of t).day
  unfolding moment_of
  day-since =
      rw (above (floor_div t 86400) epoch_day (quotient-low t h.low))
      (omega (arith, floor-parts t, floor-below t, quotient-low t h.low, h.low))

  pub second-since : ((pos_part t + 11676096000) - neg_part t) % 86400 ≡ (moment_of t).second
  unfolding moment_of
  second-since = omega (arith, floor-parts t, floor-below t, quotient-low t h.low, h.low)

  pub day-within : (moment_of t).day < day_count
  day-within = omega (arith, day-since, h.low, h.high)

  pub second-within : (moment_of t).second < 86400
  unfolding moment_of
  second-within = floor-below t

  -- seconds → day and second → seconds
  pub seconds-moment-seconds : seconds_of (moment_of t) ≡ t
  seconds-moment-seconds = counted (moment_of t) ∙ parts-eq _ _ (omega (arith, subℕ-parts ((moment_of t).day * 86400 + (moment_of t).second) 11676096000, day-since, second-since, h.low))

-- ---- and back

module _ (m : Moment) (day : m.day < day_count) (second : m.second < 86400) where
  pub seconds-within : InCalendar (seconds_of m)
  seconds-within =
      rw (counted m)
      (record {
        low = subℕ-neg (m.day * 86400 + m.second) 11676096000;
        high = high;
      })
    where
      high : pos_part (sub_ℕ (m.day * 86400 + m.second) 11676096000) < 253402300800
      high = by (ltb (m.day * 86400 + m.second) 11676096000) refl
        where
          by : (b : Bool) → ltb (m.day * 86400 + m.second) 11676096000 ≡ b → pos_part (sub_ℕ (m.day * 86400 + m.second) 11676096000) < 253402300800
          by true e = rw e (omega arith)
          by false e = omega (arith, subℕ-above (m.day * 86400 + m.second) 11676096000 (ltb-false (m.day * 86400 + m.second) 11676096000 e))

  pub seconds-small : nat_abs (seconds_of m) ≤ 2 ^ 62
  seconds-small =
      let h = seconds-within in
      parts-abs (seconds_of m) (2 ^ 62) (omega (arith, h.high)) (omega (arith, h.low))

  -- day and second → seconds → day and second
  pub moment-seconds-moment : moment_of (seconds_of m) ≡ m
  moment-seconds-moment =
      let t = seconds_of m in
      let up : (pos_part t + 11676096000) - neg_part t ≡ m.day * 86400 + m.second = rw (counted m) (omega (arith, subℕ-parts (m.day * 86400 + m.second) 11676096000, subℕ-neg (m.day * 86400 + m.second) 11676096000)) in
      let d : (moment_of t).day ≡ m.day = omega (arith, day-since t seconds-within, up) in
      let s : (moment_of t).second ≡ m.second = omega (arith, second-since t seconds-within, up) in
      λ i. record { day = d i; second = s i }
