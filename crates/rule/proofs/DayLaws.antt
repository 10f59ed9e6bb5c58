-- What holds of a day of the calendar, and which day comes after it.
use Prim.Native.Nat.{ℕ, zero, suc, ◌+◌, ◌-◌, ◌%◌, ◌^◌, ◌<◌, ◌≤◌}
use mathlib.Core.Bool.{Bool, true, false}
use mathlib.Core.Path.{◌≡◌, refl, sym, ap, ◌∙◌, subst}
use native.Mathlib.Omega.{arith}
use native.Mathlib.Numerals.{add-one}
use lib.Dec.{T, leb, ltb, leb→le}
use borrow.Author.Tests.{ltb-true, ltb-false}
use Rattle.gregorian.specs.declared.Date.{Date}
use Rattle.gregorian.specs.Year.{is_leap, year_length, leap_years, first_of_year}
use Rattle.gregorian.specs.Month.{month_length, month_start, length_in, start_in}
use Rattle.gregorian.specs.Days.{day_of, day_count, date_of, weekday_of}
use Rattle.gregorian.proofs.Computed.{all_below, all-below}
use Rattle.gregorian.proofs.YearLaws.{first-zero, first-suc, first-cycle, first-mono, year-most}
use Rattle.gregorian.proofs.MonthLaws.{month-most, month-next, year-is-months}
use Rattle.gregorian.proofs.DayLaws.{Parts, is-date, month-within, within-year, year-ends}
use Rattle.gregorian.proofs.RoundTrips.{date-parts, day-date-day, date-day-date}
use Rattle.rule.specs.declared.Day.{Day}
use Rattle.rule.specs.Day.{on_date, day_at}
use Rattle.rule.specs.Gives.{end_day}
use Rattle.rule.specs.Inner.Bounds.{InCalendar}
use Rattle.rule.proofs.Bools.{by}

no-month : (y : ℕ) → month_length y 0 ≡ 0
unfolding month_length length_in
no-month y = by (is_leap y)
  where
    by : (b : Bool) → length_in b 0 ≡ 0
    by true = refl
    by false = refl

month-first : (t : Date) → Parts t → 1 ≤ t.month
month-first t p = go t.month refl
  where
    go : (m : ℕ) → t.month ≡ m → 1 ≤ m
    go zero e =
        let none : month_length t.year t.month ≡ 0 = rw e (no-month t.year) in
        absurd (omega (arith, p.first, p.last))
    go (suc m) e = omega arith

pub day-facts : (n : ℕ) → n < day_count → InCalendar (day_at n)
unfolding day_at on_date weekday_of
day-facts n h =
    let p = date-parts n h in
    let t = date_of n in
    record {
      weekday = omega arith;
      year_low = p.low;
      year_high = p.high;
      yearday = omega (arith, within-year t p, p.first);
      yeardays = year-most t.year;
      month_low = month-first t p;
      month_high = month-within t p;
      monthday_low = p.first;
      monthday_high = p.last;
      monthdays = month-most t.year t.month;
    }

-- ---- the day after

month-least : (y m : ℕ) → 1 ≤ m → m ≤ 12 → 1 ≤ month_length y m
unfolding month_length length_in
month-least y m low high = leb→le 1 (month_length y m) (of (is_leap y) m (omega arith) low)
  where
    test : Bool → ℕ → Bool
    test leap m = leb 1 (length_in leap (suc m))

    tested : (leap : Bool) → T (all_below (test leap) 12)
    tested true = tt
    tested false = tt

    of : (leap : Bool) (m : ℕ) → m < 13 → 1 ≤ m → T (leb 1 (length_in leap m))
    of leap zero h k = absurd (omega arith)
    of leap (suc m) h k = all-below (test leap) 12 (tested leap) m (omega arith)

pub january : (y : ℕ) → month_start y 1 ≡ 0
unfolding month_start start_in length_in
january y = of (is_leap y)
  where
    of : (leap : Bool) → start_in leap 1 ≡ 0
    of true = refl
    of false = refl

-- the date of a day, by its day number
dated : (n : ℕ) (t : Date) → Parts t → day_of t ≡ n → date_of n ≡ t
dated n t p e = subst (λ (m : ℕ). date_of m ≡ t) e (date-day-date t (is-date t p))

next-weekday : (n : ℕ) → (weekday_of n + 1) % 7 ≡ weekday_of (n + 1)
unfolding weekday_of
next-weekday n = omega arith

module _ (n : ℕ) (h : n + 1 < day_count) where
  parts : Parts (date_of n)
  parts = date-parts n (omega arith)

  number : day_of (date_of n) ≡ n
  number = day-date-day n (omega arith)

  in-month : (date_of n).day < month_length (date_of n).year (date_of n).month
      → date_of (n + 1) ≡ record { year = (date_of n).year; month = (date_of n).month; day = (date_of n).day + 1 }
  unfolding day_of
  in-month less =
      dated (n + 1) (record { year = (date_of n).year; month = (date_of n).month; day = (date_of n).day + 1 })
      (record { low = parts.low; high = parts.high; first = omega arith; last = omega arith })
      (omega (arith, number, parts.first))

  in-year : month_length (date_of n).year (date_of n).month ≤ (date_of n).day → (date_of n).month < 12
      → date_of (n + 1) ≡ record { year = (date_of n).year; month = (date_of n).month + 1; day = 1 }
  unfolding day_of
  in-year last more =
      dated (n + 1) (record { year = (date_of n).year; month = (date_of n).month + 1; day = 1 })
      (record { low = parts.low; high = parts.high; first = omega arith; last = month-least (date_of n).year ((date_of n).month + 1) (omega arith) (omega arith) })
      (rw (add-one, month-next) (omega (arith, number, parts.first, parts.last)))

  -- the last day of a year
  year-over : month_length (date_of n).year (date_of n).month ≤ (date_of n).day → 12 ≤ (date_of n).month
      → n + 1 ≡ first_of_year (suc ((date_of n).year - 1600))
  unfolding day_of
  year-over last more =
      let twelve : (date_of n).month ≡ 12 = omega (arith, month-within (date_of n) parts) in
      let here : month_start (date_of n).year 13 ≡ month_start (date_of n).year (date_of n).month + month_length (date_of n).year (date_of n).month = rw twelve (month-next (date_of n).year 12) in
      omega (arith, number, parts.first, parts.last, here, year-is-months (date_of n).year, year-ends (date_of n) parts)

  next-year : month_length (date_of n).year (date_of n).month ≤ (date_of n).day → 12 ≤ (date_of n).month
      → date_of (n + 1) ≡ record { year = (date_of n).year + 1; month = 1; day = 1 }
  unfolding day_of
  next-year last more =
      let over = year-over last more in
      let below : (date_of n).year < 9999 =
      by (ltb (date_of n).year 9999) (λ e. ltb-true (date_of n).year 9999 e)
      (λ e.
      let top : (date_of n).year ≡ 9999 = omega (arith, ltb-false (date_of n).year 9999 e, parts.high) in
      let whole : first_of_year (suc ((date_of n).year - 1600)) ≡ day_count = rw top (first-cycle 21 0 ∙ (omega (arith, first-zero))) in
      absurd (omega (arith, over)))
      in
      let shift : (date_of n).year + 1 - 1600 ≡ suc ((date_of n).year - 1600) = omega (arith, parts.low) in
      dated (n + 1) (record { year = (date_of n).year + 1; month = 1; day = 1 })
      (record {
        low = omega (arith, parts.low);
        high = omega arith;
        first = omega arith;
        last = month-least ((date_of n).year + 1) 1 (omega arith) (omega arith);
      })
      (rw (shift, january ((date_of n).year + 1)) (omega (arith, over)))

-- ---- the same of days: what a day becomes within its month, past it, and past its year

abbrev in_month : Day → Day
in_month x =
    record {
      number = x.number + 1;
      weekday = (x.weekday + 1) % 7;
      year = x.year;
      yearday = x.yearday + 1;
      yeardays = x.yeardays;
      month = x.month;
      monthday = x.monthday + 1;
      monthdays = x.monthdays;
    }

abbrev in_year : Day → Day
in_year x =
    record {
      number = x.number + 1;
      weekday = (x.weekday + 1) % 7;
      year = x.year;
      yearday = x.yearday + 1;
      yeardays = x.yeardays;
      month = x.month + 1;
      monthday = 1;
      monthdays = month_length x.year (x.month + 1);
    }

abbrev in_next_year : Day → Day
in_next_year x =
    record {
      number = x.number + 1;
      weekday = (x.weekday + 1) % 7;
      year = x.year + 1;
      yearday = 0;
      yeardays = year_length (x.year + 1);
      month = 1;
      monthday = 1;
      monthdays = 31;
    }

pub january-length : (y : ℕ) → 31 ≡ month_length y 1
unfolding month_length length_in
january-length y = of (is_leap y)
  where
    of : (leap : Bool) → 31 ≡ length_in leap 1
    of true = refl
    of false = refl

module _ (n : ℕ) (h : n + 1 < day_count) where
  month-step : (day_at n).monthday < (day_at n).monthdays → in_month (day_at n) ≡ day_at (n + 1)
  unfolding day_at on_date
  month-step less =
      let t = date_of n in
      let on : month_start t.year t.month + (t.day - 1) + 1 ≡ month_start t.year t.month + (t.day + 1 - 1) = omega (arith, (date-parts n (omega arith)).first) in
      rw (in-month n h less)
      (λ i.
      record {
        number = n + 1;
        weekday = next-weekday n i;
        year = t.year;
        yearday = on i;
        yeardays = year_length t.year;
        month = t.month;
        monthday = t.day + 1;
        monthdays = month_length t.year t.month;
      })

  year-step : (day_at n).monthdays ≤ (day_at n).monthday → (day_at n).month < 12 → in_year (day_at n) ≡ day_at (n + 1)
  unfolding day_at on_date
  year-step last more =
      let t = date_of n in
      let p = date-parts n (omega arith) in
      let on : month_start t.year t.month + (t.day - 1) + 1 ≡ month_start t.year (t.month + 1) + (1 - 1) =
      rw (add-one t.month, month-next t.year t.month) (omega (arith, p.first, p.last))
      in
      rw (in-year n h last more)
      (λ i.
      record {
        number = n + 1;
        weekday = next-weekday n i;
        year = t.year;
        yearday = on i;
        yeardays = year_length t.year;
        month = t.month + 1;
        monthday = 1;
        monthdays = month_length t.year (t.month + 1);
      })

  next-year-step : (day_at n).monthdays ≤ (day_at n).monthday → 12 ≤ (day_at n).month → in_next_year (day_at n) ≡ day_at (n + 1)
  unfolding day_at on_date
  next-year-step last more =
      let t = date_of n in
      let on : 0 ≡ month_start (t.year + 1) 1 + (1 - 1) = rw (january (t.year + 1)) in
      rw (next-year n h last more)
      (λ i.
      record {
        number = n + 1;
        weekday = next-weekday n i;
        year = t.year + 1;
        yearday = on i;
        yeardays = year_length (t.year + 1);
        month = 1;
        monthday = 1;
        monthdays = january-length (t.year + 1) i;
      })

module _ (x : Day) (is : x ≡ day_at x.number) (h : x.number + 1 < day_count) where
  pub of-day : InCalendar x
  of-day = subst InCalendar (sym is) (day-facts x.number (omega arith))

  pub step-month : x.monthday < x.monthdays → in_month x ≡ day_at (x.number + 1)
  step-month less =
      ap in_month is ∙ month-step x.number h (subst (λ (y : Day). y.monthday < y.monthdays) is less)

  pub step-year : x.monthdays ≤ x.monthday → x.month < 12 → in_year x ≡ day_at (x.number + 1)
  step-year last more =
      ap in_year is
      ∙ year-step x.number h (subst (λ (y : Day). y.monthdays ≤ y.monthday) is last) (subst (λ (y : Day). y.month < 12) is more)

  pub step-next-year : x.monthdays ≤ x.monthday → 12 ≤ x.month → in_next_year x ≡ day_at (x.number + 1)
  step-next-year last more =
      ap in_next_year is
      ∙ next-year-step x.number h (subst (λ (y : Day). y.monthdays ≤ y.monthday) is last) (subst (λ (y : Day). 12 ≤ y.month) is more)

  -- not in the last year where a year follows
  pub year-fits : x.year + 1 < 2 ^ 32
  year-fits = omega (arith, of-day.year_high)

-- ---- a date that was looked up

module _ (n : ℕ) (h : n < day_count) (t : Date) (e : t ≡ date_of n) where
  pub looked-up : Parts t
  looked-up = subst Parts (sym e) (date-parts n h)

  pub looked-up-month : t.month ≤ 13
  looked-up-month = omega (arith, month-within t looked-up)

  pub looked-up-day : 1 ≤ t.day
  looked-up-day = looked-up.first

  pub looked-up-fits : (m : ℕ) → m ≡ month_start t.year t.month → m + (t.day - 1) < 2 ^ 32
  looked-up-fits m s = omega (arith, within-year t looked-up, year-most t.year)

-- ---- a day and its year

module _ (n : ℕ) (h : n < day_count) where
  pub year-start-of : first_of_year ((day_at n).year - 1600) + (day_at n).yearday ≡ n
  unfolding day_at on_date day_of
  year-start-of = omega (arith, day-date-day n h)

  year-length-of : (day_at n).yeardays ≡ year_length (day_at n).year
  unfolding day_at on_date
  year-length-of = refl

  last-first : first_of_year 399 ≡ 145732
  unfolding first_of_year leap_years is_leap
  last-first = refl

  -- the year of a day before 9999 ends before the calendar does
  pub year-within : n < end_day → n - (day_at n).yearday + (day_at n).yeardays ≤ end_day
  year-within before =
      let f = day-facts n h in
      let y = (day_at n).year in
      let start = year-start-of in
      let last : first_of_year 8399 ≡ end_day = first-cycle 20 399 ∙ (omega (arith, last-first)) in
      let high : y ≤ 9998 =
      by (ltb y 9999) (λ e. omega (arith, ltb-true y 9999 e))
      (λ e.
      let top : y - 1600 ≡ 8399 = omega (arith, ltb-false y 9999 e, f.year_high) in
      absurd (omega (arith, start, ap first_of_year top)))
      in
      let one : 1600 + (y - 1600) ≡ y = omega (arith, f.year_low) in
      let next : first_of_year (suc (y - 1600)) ≡ first_of_year (y - 1600) + year_length y = first-suc (y - 1600) ∙ ap (λ (z : ℕ). first_of_year (y - 1600) + year_length z) one in
      omega (arith, start, next, last, year-length-of, first-mono (suc (y - 1600)) 8399 (omega arith))
