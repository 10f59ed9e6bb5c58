-- From a day to its date and back, and from a date to its day and back: every day has one date, and every date one day.
use Rattle.std.specs.Prelude.{if◌then◌else◌}
use Prim.Native.Nat.{ℕ, zero, suc, ◌+◌, ◌-◌, ◌*◌, ◌/◌, ◌%◌, ◌<◌, ◌≤◌}
use mathlib.Core.Bool.{Bool, true, false}
use mathlib.Core.Path.{◌≡◌, refl, sym, ap, ◌∙◌, subst}
use native.Mathlib.Omega.{arith}
use lib.Dec.{ltb}
use borrow.Author.Tests.{ltb-true, ltb-false}
use Rattle.gregorian.specs.declared.Date.{Date}
use Rattle.gregorian.specs.Year.{year_length, first_of_year}
use Rattle.gregorian.specs.Month.{month_length, month_start, start_in, length_in}
use Rattle.gregorian.specs.Days.{is_date, day_of, day_count, from_month, from_year, date_of}
use Rattle.gregorian.proofs.YearLaws.{first-zero, first-suc, first-mono, first-cycle, cycle-length}
use Rattle.gregorian.proofs.MonthLaws.{month-next, month-mono, year-is-months}
use Rattle.gregorian.proofs.DayLaws.{Parts, parts-of, is-date, month-within, within-year, year-ends, day-above, day-below}

-- ---- the walk through the months

-- d is the day of the year y that has s days of the year before it
record InYear (y s : ℕ) (d : Date) : Type 0 where
  year : d.year ≡ y
  start : month_start y d.month + (d.day - 1) ≡ s
  first : 1 ≤ d.day
  last : d.day ≤ month_length y d.month

from-month : (y n m r : ℕ) → month_start y m + r < month_start y (m + n) → InYear y (month_start y m + r) (from_month n y m r)
unfolding from_month
from-month y zero m r h =
    let none : m + 0 ≡ m = omega arith in
    absurd (omega (arith, rw none at h))
from-month y (suc n) m r h =
    by (ltb r (month_length y m)) refl (from-month y n (suc m) (r - month_length y m))
  where
    next : m + suc n ≡ suc m + n
    next = omega arith

    by : (b : Bool) → ltb r (month_length y m) ≡ b
        → (month_start y (suc m) + (r - month_length y m) < month_start y (suc m + n) → InYear y (month_start y (suc m) + (r - month_length y m)) (from_month n y (suc m) (r - month_length y m)))
        → InYear y (month_start y m + r) (if b then record { year = y; month = m; day = suc r } else from_month n y (suc m) (r - month_length y m))
    by true e later = record { year = refl; start = omega arith; first = omega arith; last = ltb-true r (month_length y m) e }
    by false e later =
        let same : month_start y (suc m) + (r - month_length y m) ≡ month_start y m + r = omega (arith, month-next y m, ltb-false r (month_length y m) e) in
        let fits : month_start y (suc m) + (r - month_length y m) < month_start y (suc m + n) = rw (same, ← next) h in
        subst (λ (s : ℕ). InYear y s (from_month n y (suc m) (r - month_length y m))) same (later fits)

-- ---- the walk through the years

-- d is the date of day s, in one of the n years from y on
record InYears (y n s : ℕ) (d : Date) : Type 0 where
  from : y ≤ d.year
  to : d.year < y + n
  day : day_of d ≡ s
  first : 1 ≤ d.day
  last : d.day ≤ month_length d.year d.month

month-one : (y : ℕ) → month_start y 1 ≡ 0
unfolding month_start start_in length_in
month-one y = refl

of-year : (y n r : ℕ) → 1600 ≤ y → r < year_length y → InYears y (suc n) (first_of_year (y - 1600) + r) (from_month 12 y 1 r)
unfolding day_of
of-year y n r low h = of (from_month 12 y 1 r) (from-month y 12 1 r (omega (arith, month-one y, year-is-months y)))
  where
    of : (d : Date) → InYear y (month_start y 1 + r) d → InYears y (suc n) (first_of_year (y - 1600) + r) d
    of d w =
        record {
          from = omega (arith, w.year);
          to = omega (arith, w.year);
          day = rw w.year (omega (arith, w.start, month-one y));
          first = w.first;
          last = rw w.year w.last;
        }

from-year : (n y r : ℕ) → 1600 ≤ y → first_of_year (y - 1600) + r < first_of_year (y - 1600 + n)
    → InYears y n (first_of_year (y - 1600) + r) (from_year n y r)
unfolding from_year
from-year zero y r low h =
    let none : y - 1600 + 0 ≡ y - 1600 = omega arith in
    absurd (omega (arith, rw none at h))
from-year (suc n) y r low h =
    by (ltb r (year_length y)) refl (from-year n (suc y) (r - year_length y) (omega arith))
  where
    next : y - 1600 + suc n ≡ suc y - 1600 + n
    next = omega arith

    ends : first_of_year (suc y - 1600) ≡ first_of_year (y - 1600) + year_length y
    ends =
        let one : suc y - 1600 ≡ suc (y - 1600) = omega arith in
        let back : 1600 + (y - 1600) ≡ y = omega arith in
        rw (one, first-suc (y - 1600), back)

    by : (b : Bool) → ltb r (year_length y) ≡ b
        → (first_of_year (suc y - 1600) + (r - year_length y) < first_of_year (suc y - 1600 + n) → InYears (suc y) n (first_of_year (suc y - 1600) + (r - year_length y)) (from_year n (suc y) (r - year_length y)))
        → InYears y (suc n) (first_of_year (y - 1600) + r) (if b then from_month 12 y 1 r else from_year n (suc y) (r - year_length y))
    by true e later = of-year y n r low (ltb-true r (year_length y) e)
    by false e later =
        let same : first_of_year (suc y - 1600) + (r - year_length y) ≡ first_of_year (y - 1600) + r = omega (arith, ends, ltb-false r (year_length y) e) in
        let fits : first_of_year (suc y - 1600) + (r - year_length y) < first_of_year (suc y - 1600 + n) = rw (same, ← next) h in
        let w = later fits in
        record { from = omega (arith, w.from); to = omega (arith, w.to); day = w.day ∙ same; first = w.first; last = w.last }

-- ---- a day's date

module _ (n : ℕ) (h : n < day_count) where
  found : InYears (1600 + 400 * (n / 146097)) 400 n (date_of n)
  unfolding date_of
  found =
      let base : 1600 + 400 * (n / 146097) - 1600 ≡ 400 * (n / 146097) + 0 = omega arith in
      let start : first_of_year (1600 + 400 * (n / 146097) - 1600) ≡ 146097 * (n / 146097) = rw (base, first-cycle (n / 146097) 0) (omega (arith, first-zero)) in
      let same : first_of_year (1600 + 400 * (n / 146097) - 1600) + n % 146097 ≡ n = omega (arith, start) in
      let after : 1600 + 400 * (n / 146097) - 1600 + 400 ≡ 400 * (n / 146097) + 400 = omega arith in
      let fits : first_of_year (1600 + 400 * (n / 146097) - 1600) + n % 146097 < first_of_year (1600 + 400 * (n / 146097) - 1600 + 400) = rw (after, first-cycle (n / 146097) 400) (omega (arith, start, cycle-length)) in
      subst (λ (s : ℕ). InYears (1600 + 400 * (n / 146097)) 400 s (from_year 400 (1600 + 400 * (n / 146097)) (n % 146097))) same
      (from-year 400 (1600 + 400 * (n / 146097)) (n % 146097) (omega arith) fits)

  pub date-parts : Parts (date_of n)
  date-parts = record { low = omega (arith, found.from); high = omega (arith, found.to); first = found.first; last = found.last }

  -- day → date → day
  pub day-date-day : day_of (date_of n) ≡ n
  day-date-day = found.day

  pub date-is-date : is_date (date_of n) ≡ true
  date-is-date = is-date (date_of n) date-parts

-- ---- a date's day

order : {C : Type 0} (a b : ℕ) → (a < b → C) → (a ≡ b → C) → (b < a → C) → C
order {C} a b less same more = by (ltb a b) refl
  where
    at_least : (t : Bool) → ltb b a ≡ t → b ≤ a → C
    at_least true e h = more (ltb-true b a e)
    at_least false e h = same (omega (arith, ltb-false b a e))

    by : (t : Bool) → ltb a b ≡ t → C
    by true e = less (ltb-true a b e)
    by false e = at_least (ltb b a) refl (ltb-false a b e)

-- an earlier year has the earlier days
year-before : (d e : Date) → Parts d → Parts e → d.year < e.year → day_of d < day_of e
year-before d e p q h =
    omega (arith, day-below d p, day-above e q, first-mono (suc (d.year - 1600)) (e.year - 1600) (omega (arith, p.low)))

-- of one year an earlier month
month-before : (d e : Date) → Parts d → Parts e → d.year ≡ e.year → d.month < e.month → day_of d < day_of e
unfolding day_of
month-before d e p q s h =
    rw s (omega (arith, rw s at p.last, p.first, month-next e.year d.month, month-mono e.year (suc d.month) e.month h))

-- different dates have different days
pub day-injective : (d e : Date) → Parts d → Parts e → day_of d ≡ day_of e → d ≡ e
unfolding day_of
day-injective d e p q s =
    order d.year e.year (λ h. absurd (omega (arith, year-before d e p q h))) same-year (λ h. absurd (omega (arith, year-before e d q p h)))
  where
    same-month : d.year ≡ e.year → d.month ≡ e.month → d ≡ e
    same-month y m =
        let day : d.day ≡ e.day = omega (arith, rw (y, m) at s, p.first, q.first) in
        λ i. record { year = y i; month = m i; day = day i }

    same-year : d.year ≡ e.year → d ≡ e
    same-year y =
        order d.month e.month (λ h. absurd (omega (arith, month-before d e p q y h))) (same-month y) (λ h. absurd (omega (arith, month-before e d q p (sym y) h)))

pub day-in-calendar : (d : Date) → Parts d → day_of d < day_count
day-in-calendar d p =
    omega (arith, day-below d p, first-mono (suc (d.year - 1600)) 8400 (omega (arith, p.low, p.high)), first-cycle 21 0, first-zero)

-- date → day → date
pub date-day-date : (d : Date) → is_date d ≡ true → date_of (day_of d) ≡ d
date-day-date d e =
    let p = parts-of d e in
    let h = day-in-calendar d p in
    day-injective (date_of (day_of d)) d (date-parts (day_of d) h) p (day-date-day (day_of d) h)
