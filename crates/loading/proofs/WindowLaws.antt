-- The window of a call in seconds from 1600: it lies in the years 1601 to 9998, and so do the days that it asks for.
use Rattle.std.specs.Prelude.{if◌then◌else◌}
use Prim.Native.Nat.{ℕ, ◌+◌, ◌-◌, ◌*◌, ◌/◌, ◌%◌, ◌<◌, ◌≤◌}
use mathlib.Core.Bool.{Bool, true, false}
use mathlib.Core.Path.{◌≡◌, refl, sym, ap, ◌∙◌}
use native.Mathlib.Omega.{arith}
use borrow.Author.Tests.{ltb-true}
use lib.Dec.{ltb}
use lib.IntN.{ℤ, pos, neg_ℤ}
use lib.Signed.{le_z}
use Rattle.signed.specs.Parts.{pos_part, neg_part}
use Rattle.signed.proofs.Parts.{le_parts}
use Rattle.gregorian.specs.Inner.Seconds.{InCalendar, moment_of}
use Rattle.gregorian.proofs.SecondLaws.{day-since, second-since}
use Rattle.rule.specs.Gives.{end_day}
use Rattle.rule.proofs.Bools.{left, right}
use Rattle.call_definitions.specs.Window.{epoch, since1600, valid_window}
use Rattle.window.specs.Inner.Handed.{Span}
use Rattle.record.proofs.WindowLaws.{since-parts}
use Rattle.loading.specs.Inner.Limit.{limit_of}

module _ (from to : ℤ) (valid : valid_window from to ≡ true) where
  early : le_z (neg_ℤ (pos 11644473600)) from ≡ true
  unfolding valid_window
  early = left _ _ valid

  turned : le_z from to ≡ true
  unfolding valid_window
  turned = left _ _ (right (le_z (neg_ℤ (pos 11644473600)) from) _ valid)

  late : le_z to (pos 253370764800) ≡ true
  unfolding valid_window
  late = right (le_z from to) _ (right (le_z (neg_ℤ (pos 11644473600)) from) _ valid)

  pub window-in : Span (since1600 from) (since1600 to)
  window-in =
      let a = le_parts (neg_ℤ (pos 11644473600)) from early in
      let b = le_parts from to turned in
      let c = le_parts to (pos 253370764800) late in
      let f : pos_part from + epoch - neg_part from ≡ since1600 from = since-parts from in
      let t : pos_part to + epoch - neg_part to ≡ since1600 to = since-parts to in
      record { low = omega (arith, a, f); order = omega (arith, a, b, f, t); high = omega (arith, c, t) }

-- ---- the days

-- "seconds before 1970, with floor division into days": of seconds that are counted from 1600, the quotient and the remainder by 86,400 are
-- the day and the second of the day that floor division of the signed seconds gives.
pub floor-day : (t : ℤ) → InCalendar t → since1600 t / 86400 ≡ (moment_of t).day
floor-day t h = ap (λ (n : ℕ). n / 86400) (sym (since-parts t)) ∙ day-since t h

pub floor-second : (t : ℤ) → InCalendar t → since1600 t % 86400 ≡ (moment_of t).second
floor-second t h = ap (λ (n : ℕ). n % 86400) (sym (since-parts t)) ∙ second-since t h

module _ (to : ℕ) where
  pub limit-within : limit_of to ≤ end_day
  unfolding limit_of
  limit-within = go (ltb (to / 86400) end_day) refl
    where
      go : (c : Bool) → ltb (to / 86400) end_day ≡ c → (if c then to / 86400 + 1 else end_day) ≤ end_day
      go true e = let h : to / 86400 < end_day = ltb-true _ _ e in omega arith
      go false e = omega arith

  pub limit-enough : to ≤ 86400 * end_day → to ≤ 86400 * limit_of to
  unfolding limit_of
  limit-enough h = go (ltb (to / 86400) end_day)
    where
      go : (c : Bool) → to ≤ 86400 * (if c then to / 86400 + 1 else end_day)
      go true = omega arith
      go false = h
