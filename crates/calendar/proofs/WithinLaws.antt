-- The year of a cycle and the month of a year that hold a day: the guess, or the one after it. And the date that they make.
use Prim.Native.Nat.{ℕ, ◌+◌, ◌-◌, ◌*◌, ◌/◌, ◌%◌, ◌<◌, ◌≤◌}
use mathlib.Core.Bool.{Bool, true, false}
use mathlib.Core.Path.{◌≡◌, refl, sym, ◌∙◌}
use native.Mathlib.Omega.{arith}
use native.Mathlib.Numerals.{add-one}
use lib.Dec.{ltb}
use borrow.Author.Tests.{ltb-true, ltb-false}
use Rattle.gregorian.specs.declared.Date.{Date}
use Rattle.gregorian.specs.Year.{year_length, first_of_year}
use Rattle.gregorian.specs.Month.{month_start}
use Rattle.gregorian.specs.Days.{day_of, day_count, date_of}
use Rattle.calendar.specs.Inner.Within.{HoldsDay, HoldsDayOfYear}
use Rattle.gregorian.proofs.YearLaws.{first-suc, first-cycle, guess-low, guess-high, cycle-length, year-most, length-repeats}
use Rattle.gregorian.proofs.MonthLaws.{month-next, month-guess-low, month-guess-high, year-is-months}
use Rattle.gregorian.proofs.DayLaws.{Parts}
use Rattle.gregorian.proofs.RoundTrips.{day-date-day, date-parts, day-injective}

module _ (r : ℕ) (h : r < 146097) where
  pub year-here : r < first_of_year (r / 366 + 1) → HoldsDay (r / 366) r
  year-here below = record { low = guess-low r; high = rw (← (add-one (r / 366))) below; cycle = omega arith }

  pub year-next : first_of_year (r / 366 + 1) ≤ r → HoldsDay (r / 366 + 1) r
  year-next above = by (ltb (r / 366) 399) refl
    where
      by : (b : Bool) → ltb (r / 366) 399 ≡ b → HoldsDay (r / 366 + 1) r
      by true e =
          let k = ltb-true (r / 366) 399 e in
          record { low = above; high = rw (add-one (r / 366)) (omega (arith, guess-high (r / 366) k)); cycle = omega (arith, k) }
      by false e =
          let last : r / 366 + 1 ≡ 400 = omega (arith, ltb-false (r / 366) 399 e) in
          absurd (omega (arith, rw last at above, cycle-length))

module _ (y r : ℕ) (h : r < year_length y) where
  guess-most : r / 32 + 1 ≤ 12
  guess-most = omega (arith, year-most y)

  pub month-asks : r / 32 + 1 + 1 ≤ 13
  month-asks = omega (arith, guess-most)

  pub month-here : r < month_start y (r / 32 + 1 + 1) → HoldsDayOfYear y (r / 32 + 1) r
  month-here below =
      record { low = month-guess-low y r h; high = rw (← (add-one (r / 32 + 1))) below; first = omega arith; last = guess-most }

  pub month-after : month_start y (r / 32 + 1 + 1) ≤ r → HoldsDayOfYear y (r / 32 + 1 + 1) r
  month-after above = by (ltb (r / 32 + 1) 12) refl
    where
      by : (b : Bool) → ltb (r / 32 + 1) 12 ≡ b → HoldsDayOfYear y (r / 32 + 1 + 1) r
      by true e =
          record {
            low = above;
            high = rw (add-one (r / 32 + 1)) (month-guess-high y r h);
            first = omega arith;
            last = omega (arith, ltb-true (r / 32 + 1) 12 e);
          }
      by false e =
          let last : r / 32 + 1 + 1 ≡ 13 = omega (arith, ltb-false (r / 32 + 1) 12 e, guess-most) in
          absurd (omega (arith, rw last at above, year-is-months y))

-- ---- the date of day n, from the year k of its cycle and the month m that hold it

module _ (n k : ℕ) (h : n < day_count) (in-year : HoldsDay k (n % 146097)) where
  abbrev pub the_year : ℕ
  the_year = 1600 + n / 146097 * 400 + k

  cycles : 1600 + n / 146097 * 400 + k ≡ 1600 + (400 * (n / 146097) + k)
  cycles = omega arith

  pub rest-within : n % 146097 - first_of_year k < year_length (1600 + n / 146097 * 400 + k)
  rest-within = rw (cycles, length-repeats (n / 146097) k) (omega (arith, in-year.low, in-year.high, first-suc k))

  first_of : first_of_year (1600 + n / 146097 * 400 + k - 1600) ≡ 146097 * (n / 146097) + first_of_year k
  first_of =
      let off : 1600 + n / 146097 * 400 + k - 1600 ≡ 400 * (n / 146097) + k = omega arith in
      rw (off, first-cycle (n / 146097) k)

  module _ (m : ℕ) (in-month : HoldsDayOfYear (1600 + n / 146097 * 400 + k) m (n % 146097 - first_of_year k)) where
    made : Date
    made = record { year = 1600 + n / 146097 * 400 + k; month = m; day = n % 146097 - first_of_year k - month_start (1600 + n / 146097 * 400 + k) m + 1 }

    made-parts : Parts made
    unfolding made
    made-parts =
        record {
          low = omega arith;
          high = omega (arith, in-year.cycle, h);
          first = omega arith;
          last = omega (arith, in-month.low, in-month.high, month-next (1600 + n / 146097 * 400 + k) m);
        }

    made-day : day_of made ≡ n
    unfolding made day_of
    made-day = omega (arith, first_of, in-year.low, in-month.low)

    pub made-date : record { year = 1600 + n / 146097 * 400 + k; month = m; day = n % 146097 - first_of_year k - month_start (1600 + n / 146097 * 400 + k) m + 1 } ≡ date_of n
    unfolding made
    made-date = day-injective made (date_of n) made-parts (date-parts n h) (made-day ∙ sym (day-date-day n h))
