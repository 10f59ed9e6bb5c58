-- The parts of a date: within its month, its year, the calendar.
use Rattle.std.specs.Prelude.{if◌then◌else◌}
use Prim.Native.Nat.{ℕ, zero, suc, ◌+◌, ◌-◌, ◌*◌, ◌^◌, ◌<◌, ◌≤◌}
use mathlib.Core.Bool.{Bool, true, false, ◌&&◌}
use mathlib.Core.Path.{◌≡◌, refl, sym, ap, ◌∙◌, subst}
use native.Mathlib.Omega.{arith}
use lib.Dec.{T, leb, ltb, leb→le}
use mir.Facts.{and_yes}
use borrow.Author.Tests.{ltb-true, ltb-false, le-leb, leb-true}
use Rattle.gregorian.specs.declared.Date.{Date}
use Rattle.gregorian.specs.Year.{year_length, first_of_year}
use Rattle.gregorian.specs.Month.{month_length, month_start}
use Rattle.gregorian.specs.Days.{is_date, day_of, weekday_of}
use Rattle.gregorian.proofs.YearLaws.{first-suc, first-mono, first-cycle, first-most, year-most}
use Rattle.gregorian.proofs.MonthLaws.{month-none, month-next, month-mono, year-is-months}

-- what the test of a date says, part by part
pub record Parts (d : Date) : Type 0 where
  pub low : 1600 ≤ d.year
  pub high : d.year ≤ 9999
  pub first : 1 ≤ d.day
  pub last : d.day ≤ month_length d.year d.month

is_true : (b : Bool) → b ≡ true → T b
is_true b e = subst T (sym e) tt

pub parts-of : (d : Date) → is_date d ≡ true → Parts d
unfolding is_date
parts-of d e =
    let a = and_yes (leb 1600 d.year) _ (is_true _ e) in
    let b = and_yes (leb d.year 9999) _ a.1 in
    let c = and_yes (leb 1 d.day) _ b.1 in
    record { low = leb→le _ _ a.0; high = leb→le _ _ b.0; first = leb→le _ _ c.0; last = leb→le _ _ c.1 }

pub is-date : (d : Date) → Parts d → is_date d ≡ true
unfolding is_date
is-date d p = rw (le-leb _ _ p.low, le-leb _ _ p.high, le-leb _ _ p.first, le-leb _ _ p.last)

module _ (d : Date) (p : Parts d) where
  pub month-within : d.month ≤ 12
  month-within = by (ltb 12 d.month) refl
    where
      by : (b : Bool) → ltb 12 d.month ≡ b → d.month ≤ 12
      by true e = absurd (omega (arith, month-none d.year d.month (ltb-true 12 d.month e)))
      by false e = ltb-false 12 d.month e

  pub within-year : month_start d.year d.month + d.day ≤ year_length d.year
  within-year =
      omega (arith, month-next d.year d.month, month-mono d.year (suc d.month) 13 (omega (arith, month-within)), year-is-months d.year)

  pub year-ends : first_of_year (suc (d.year - 1600)) ≡ first_of_year (d.year - 1600) + year_length d.year
  year-ends = first-suc (d.year - 1600) ∙ ap (λ (y : ℕ). first_of_year (d.year - 1600) + year_length y) (omega arith)

  pub day-above : first_of_year (d.year - 1600) + month_start d.year d.month ≤ day_of d
  unfolding day_of
  day-above = omega arith

  pub day-below : day_of d < first_of_year (suc (d.year - 1600))
  unfolding day_of
  day-below = omega (arith, within-year, year-ends)

  -- the sums on the way to a day number fit
  pub day-small : first_of_year (d.year - 1600) + month_start d.year d.month + d.day < 2 ^ 31
  day-small =
      omega (arith, within-year, year-most d.year, first-most (d.year - 1600), p.high)

pub weekday-below : (n : ℕ) → weekday_of n < 7
unfolding weekday_of
weekday-below n = omega arith
