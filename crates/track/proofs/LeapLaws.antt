-- Days of a day's year: the first of the next, the first of its month, and those after its month.
use Prim.Native.Nat.{ℕ, suc, ◌+◌, ◌-◌, ◌%◌, ◌<◌, ◌≤◌}
use mathlib.Core.Path.{◌≡◌, refl, sym, ap, ◌∙◌, subst}
use native.Mathlib.Omega.{arith}
use native.Mathlib.Numerals.{add-one}
use lib.Dec.{ltb}
use borrow.Author.Tests.{ltb-true, ltb-false}
use Rattle.gregorian.specs.declared.Date.{Date}
use Rattle.gregorian.specs.Days.{day_count, day_of, date_of, weekday_of}
use Rattle.gregorian.specs.Year.{year_length, first_of_year}
use Rattle.gregorian.specs.Month.{month_start, month_length}
use Rattle.gregorian.proofs.YearLaws.{first-suc, first-cycle, first-zero}
use Rattle.gregorian.proofs.MonthLaws.{month-most, month-next, year-is-months}
use Rattle.calendar.specs.Inner.Within.{HoldsDayOfYear}
use Rattle.gregorian.proofs.DayLaws.{Parts, is-date}
use Rattle.gregorian.proofs.RoundTrips.{date-parts, day-date-day, date-day-date}
use Rattle.rule.specs.declared.Day.{Day}
use Rattle.rule.specs.Day.{on_date, day_at}
use Rattle.rule.specs.Inner.Bounds.{InCalendar}
use Rattle.rule.proofs.Bools.{by}
use Rattle.rule.proofs.DayLaws.{january, january-length, year-start-of}
use Rattle.track.proofs.SpanLaws.{year-length-of}
use Rattle.matcher.proofs.WalkLaws.{in-calendar}

weekday-of : (n : ℕ) → (day_at n).weekday ≡ (n + 5) % 7
unfolding day_at on_date weekday_of
weekday-of n = refl

-- The calendar's last year is followed by none.
last_end : first_of_year 8400 ≡ 3068037
last_end = first-cycle 21 0 ∙ (omega (arith, first-zero))

abbrev first : ℕ → Date
first y = record { year = y; month = 1; day = 1 }

module _ (y : ℕ) (low : 1600 ≤ y) (high : y ≤ 9999) where
  parts : Parts (first y)
  parts = record { low = low; high = high; first = omega arith; last = omega (arith, january-length y) }

  number_of : day_of (first y) ≡ first_of_year (y - 1600)
  unfolding day_of
  number_of = omega (arith, january y)

  date-of : date_of (first_of_year (y - 1600)) ≡ first y
  date-of = ap date_of (sym number_of) ∙ date-day-date (first y) (is-date (first y) parts)

-- January 1st of a year, with its number and its weekday.
abbrev new_year : ℕ → ℕ → ℕ → Day
new_year n w y =
    record {
      number = n;
      weekday = w;
      year = y;
      yearday = 0;
      yeardays = year_length y;
      month = 1;
      monthday = 1;
      monthdays = 31;
    }

first-day : (y n w : ℕ) → 1600 ≤ y → y ≤ 9999 → n ≡ first_of_year (y - 1600) → w ≡ weekday_of n → new_year n w y ≡ day_at n
unfolding day_at on_date
first-day y n w low high e f =
    let date : date_of n ≡ first y = ap date_of e ∙ date-of y low high in
    let on : 0 ≡ month_start y 1 + (1 - 1) = rw (january y) in
    rw date
    (λ i.
    record {
      number = n;
      weekday = f i;
      year = y;
      yearday = on i;
      yeardays = year_length y;
      month = 1;
      monthday = 1;
      monthdays = january-length y i;
    })

module _ (x : Day) (is : x ≡ day_at x.number) (known : x.number < day_count) where
  facts : InCalendar x
  facts = in-calendar x x.number is known

  begin : first_of_year (x.year - 1600) + x.yearday ≡ x.number
  begin = ap (λ (d : Day). first_of_year (d.year - 1600) + d.yearday) is ∙ year-start-of x.number known

  pub whole : x.yeardays ≡ year_length x.year
  whole = ap (λ (d : Day). d.yeardays) is ∙ (year-length-of x.number ∙ sym (ap (λ (d : Day). year_length d.year) is))

  weekday-later : (k : ℕ) → (x.weekday + k) % 7 ≡ weekday_of (x.number + k)
  unfolding weekday_of
  weekday-later k =
      let at : x.weekday ≡ (x.number + 5) % 7 = ap (λ (d : Day). d.weekday) is ∙ weekday-of x.number in
      omega (arith, at)

module _ (x : Day) (is : x ≡ day_at x.number) (h : x.number + (x.yeardays - x.yearday) < day_count) where
  known : x.number < day_count
  known = omega arith

  next : first_of_year (suc (x.year - 1600)) ≡ x.number + (x.yeardays - x.yearday)
  next =
      let f = facts x is known in
      let low = f.year_low in
      let one : 1600 + (x.year - 1600) ≡ x.year = omega arith in
      omega (arith, first-suc (x.year - 1600), ap year_length one, begin x is known, whole x is known, f.yearday)

  -- the calendar has a year after
  pub not_last : x.year + 1 ≤ 9999
  not_last =
      by (ltb x.year 9999) (λ e. omega (arith, ltb-true x.year 9999 e))
      (λ e.
      let top : suc (x.year - 1600) ≡ 8400 = omega (arith, ltb-false x.year 9999 e, (facts x is known).year_high) in
      absurd (omega (arith, next, ap first_of_year top, last_end)))

  pub new-year : new_year (x.number + (x.yeardays - x.yearday)) ((x.weekday + (x.yeardays - x.yearday)) % 7) (x.year + 1) ≡ day_at (x.number + (x.yeardays - x.yearday))
  new-year =
      let low = (facts x is known).year_low in
      let after : x.year + 1 - 1600 ≡ suc (x.year - 1600) = omega arith in
      first-day (x.year + 1) _ _ (omega arith) not_last (sym next ∙ ap first_of_year (sym after)) (weekday-later x is known (x.yeardays - x.yearday))

-- ---- the first day of a day's month

abbrev pub first_of : Day → Day
first_of x =
    record {
      number = x.number - (x.monthday - 1);
      weekday = (x.weekday + 36 - x.monthday) % 7;
      year = x.year;
      yearday = x.yearday - (x.monthday - 1);
      yeardays = x.yeardays;
      month = x.month;
      monthday = 1;
      monthdays = x.monthdays;
    }

abbrev month_date : Date → Date
month_date t = record { year = t.year; month = t.month; day = 1 }

module _ (n : ℕ) (h : n < day_count) where
  month-number : day_of (month_date (date_of n)) ≡ n - ((date_of n).day - 1)
  unfolding day_of
  month-number = omega (arith, day-date-day n h)

  month-early : (date_of n).day - 1 ≤ n
  unfolding day_of
  month-early = omega (arith, day-date-day n h)

  month-date : date_of (n - ((date_of n).day - 1)) ≡ month_date (date_of n)
  month-date =
      let p = date-parts n h in
      ap date_of (sym month-number)
      ∙ date-day-date (month_date (date_of n))
      (is-date (month_date (date_of n)) (record { low = p.low; high = p.high; first = omega arith; last = omega (arith, p.first, p.last) }))

  month-weekday : (weekday_of n + 36 - (date_of n).day) % 7 ≡ weekday_of (n - ((date_of n).day - 1))
  unfolding weekday_of
  month-weekday =
      let p = date-parts n h in
      omega (arith, p.first, p.last, month-most (date_of n).year (date_of n).month, month-early)

  first-of-number : first_of (day_at n) ≡ day_at (n - ((day_at n).monthday - 1))
  unfolding day_at on_date
  first-of-number =
      let t = date_of n in
      let yearday : month_start t.year t.month + (t.day - 1) - (t.day - 1) ≡ month_start t.year t.month + (1 - 1) = omega arith in
      rw month-date
      (λ i.
      record {
        number = n - (t.day - 1);
        weekday = month-weekday i;
        year = t.year;
        yearday = yearday i;
        yeardays = year_length t.year;
        month = t.month;
        monthday = 1;
        monthdays = month_length t.year t.month;
      })

pub first-of-month : (x : Day) → x ≡ day_at x.number → x.number < day_count → first_of x ≡ day_at (x.number - (x.monthday - 1))
first-of-month x is h = ap first_of is ∙ (first-of-number x.number h ∙ ap (λ (d : Day). day_at (x.number - (d.monthday - 1))) (sym is))

pub month-not-early : (x : Day) → x ≡ day_at x.number → x.number < day_count → x.monthday - 1 ≤ x.number
unfolding day_at on_date
month-not-early x is h = subst (λ (d : Day). d.monthday - 1 ≤ x.number) (sym is) (month-early x.number h)

-- ---- a day of the same year

-- k days later, in the month m
abbrev pub in_year : Day → ℕ → ℕ → Day
in_year x k m =
    record {
      number = x.number + k;
      weekday = (x.weekday + k) % 7;
      year = x.year;
      yearday = x.yearday + k;
      yeardays = x.yeardays;
      month = m;
      monthday = x.yearday + k - month_start x.year m + 1;
      monthdays = month_length x.year m;
    }

pub month-not-last : (y m r : ℕ) → m ≤ 12 → month_start y (m + 1) ≤ r → r < year_length y → m < 12
month-not-last y m r h low high =
    by (ltb m 12) (λ e. ltb-true m 12 e)
    (λ e.
    let next : m + 1 ≡ 13 = omega (arith, ltb-false m 12 e) in
    absurd (omega (arith, year-is-months y, ap (month_start y) next)))

pub month-holds-day : (y m r : ℕ) → 1 ≤ m → m ≤ 12 → month_start y m ≤ r → r < month_start y (m + 1) → HoldsDayOfYear y m r
month-holds-day y m r first last low high = record { low = low; high = omega (arith, ap (month_start y) (add-one m)); first = first; last = last }

pub december-holds-day : (y r : ℕ) → month_start y 12 ≤ r → r < year_length y → HoldsDayOfYear y 12 r
december-holds-day y r low high = month-holds-day y 12 r (omega arith) (omega arith) low (omega (arith, year-is-months y))

on-date : (t : Date) → Parts t → (n : ℕ) → day_of t ≡ n → on_date n t ≡ day_at n
unfolding day_at
on-date t p n e = ap (on_date n) (sym (ap date_of (sym e) ∙ date-day-date t (is-date t p)))

month-start-least : (n : ℕ) → month_start (day_at n).year (day_at n).month ≤ (day_at n).yearday
unfolding day_at on_date
month-start-least n = omega arith

pub month-of-day : (x : Day) → x ≡ day_at x.number → month_start x.year x.month ≤ x.yearday
month-of-day x is = subst (λ (d : Day). month_start d.year d.month ≤ d.yearday) (sym is) (month-start-least x.number)

module _ (x : Day) (is : x ≡ day_at x.number) (k m : ℕ) (h : x.number + k < day_count) (holds : HoldsDayOfYear x.year m (x.yearday + k)) where
  in-calendar-year : x.number < day_count
  in-calendar-year = omega arith

  date : Date
  date = record { year = x.year; month = m; day = x.yearday + k - month_start x.year m + 1 }

  date-parts-of : Parts date
  unfolding date
  date-parts-of =
      let f = facts x is in-calendar-year in
      record {
        low = f.year_low;
        high = f.year_high;
        first = omega arith;
        last = omega (arith, holds.low, holds.high, month-next x.year m);
      }

  date-number : day_of date ≡ x.number + k
  unfolding date day_of
  date-number = omega (arith, begin x is in-calendar-year, holds.low)

  pub year-later : in_year x k m ≡ day_at (x.number + k)
  unfolding date on_date
  year-later =
      let yearday : x.yearday + k ≡ month_start x.year m + (x.yearday + k - month_start x.year m + 1 - 1) = omega (arith, holds.low) in
      let fields : in_year x k m ≡ on_date (x.number + k) date =
      λ i.
      record {
        number = x.number + k;
        weekday = weekday-later x is in-calendar-year k i;
        year = x.year;
        yearday = yearday i;
        yeardays = whole x is in-calendar-year i;
        month = m;
        monthday = x.yearday + k - month_start x.year m + 1;
        monthdays = month_length x.year m;
      }
      in
      fields ∙ on-date date date-parts-of (x.number + k) date-number
