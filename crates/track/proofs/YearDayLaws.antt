-- The days of two years of one kind agree in all but their number and their year.
use Rattle.std.specs.Prelude.{if◌then◌else◌}
use Prim.Native.Nat.{ℕ, zero, suc, ◌+◌, ◌%◌, ◌<◌, ◌≤◌}
use mathlib.Core.Bool.{Bool, true, false}
use mathlib.Core.List.{List}
use mathlib.Core.Path.{◌≡◌, refl, sym, ap, ◌∙◌}
use native.Mathlib.Omega.{arith}
use lib.Dec.{ltb}
use borrow.Author.Tests.{ltb-true, ltb-false}
use Rattle.gregorian.specs.Year.{is_leap, year_length}
use Rattle.gregorian.specs.Month.{length_in, month_length}
use Rattle.gregorian.specs.Days.{day_count}
use Rattle.rule.specs.declared.Frequency.TheVariants.{Yearly}
use Rattle.rule.specs.declared.Day.{Day}
use Rattle.rule.specs.Day.{day_at}
use Rattle.rule.specs.Period.{period_of, since_first, days_of}
use Rattle.rule.specs.Gives.{end_day}
use Rattle.rule.proofs.Bools.{by}
use Rattle.rule.proofs.DayLaws.{step-month, step-year, step-next-year}
use Rattle.rule.proofs.PeriodLaws.{day-number}
use Rattle.matcher.specs.Inner.Flags.{month_by, date_by, day_by, stays_by}
use Rattle.matcher.proofs.WalkLaws.{in-calendar}
use Rattle.track.specs.Inner.Years.{NewYear}
use Rattle.track.proofs.SpanLaws.{Later, in-period, year-length-of}

-- a day of any year
abbrev pub any_year : Day → Day
any_year x =
    record {
      number = 0;
      weekday = x.weekday;
      year = 0;
      yearday = x.yearday;
      yeardays = x.yeardays;
      month = x.month;
      monthday = x.monthday;
      monthdays = x.monthdays;
    }

pub stays-alike : (row : List Bool) (in_year : Bool) (x y : Day) → any_year x ≡ any_year y → stays_by row in_year x ≡ stays_by row in_year y
unfolding stays_by month_by date_by day_by
stays-alike row in_year x y e = ap (stays_by row in_year) e

-- ---- one day on

onward : Day → Day
onward z =
    record {
      number = 0;
      weekday = (z.weekday + 1) % 7;
      year = 0;
      yearday = z.yearday + 1;
      yeardays = z.yeardays;
      month = z.month;
      monthday = z.monthday + 1;
      monthdays = z.monthdays;
    }

new_month : Bool → Day → Day
new_month leap z =
    record {
      number = 0;
      weekday = (z.weekday + 1) % 7;
      year = 0;
      yearday = z.yearday + 1;
      yeardays = z.yeardays;
      month = z.month + 1;
      monthday = 1;
      monthdays = length_in leap (z.month + 1);
    }

same-leap : (p q : Bool) → ◌≡◌ {A = ℕ} (if p then 366 else 365) (if q then 366 else 365) → p ≡ q
same-leap true true e = refl
same-leap true false e = absurd (omega arith)
same-leap false true e = absurd (omega arith)
same-leap false false e = refl

module _ (a b : Day) (is-a : a ≡ day_at a.number) (is_b : b ≡ day_at b.number) (h-a : a.number + 1 < day_count) (h-b : b.number + 1 < day_count)
    (e : any_year a ≡ any_year b) where
  in-month-alike : a.monthday < a.monthdays → any_year (day_at (a.number + 1)) ≡ any_year (day_at (b.number + 1))
  unfolding onward
  in-month-alike less =
      let day = ap (λ (z : Day). z.monthday) e in
      let days = ap (λ (z : Day). z.monthdays) e in
      sym (ap any_year (step-month a is-a h-a less)) ∙ (ap onward e ∙ ap any_year (step-month b is_b h-b (omega arith)))

  leap-alike : is_leap a.year ≡ is_leap b.year
  unfolding year_length
  leap-alike =
      let of-a : a.yeardays ≡ year_length a.year = ap (λ (z : Day). z.yeardays) is-a ∙ (year-length-of a.number ∙ sym (ap (λ (z : Day). year_length z.year) is-a)) in
      let of-b : b.yeardays ≡ year_length b.year = ap (λ (z : Day). z.yeardays) is_b ∙ (year-length-of b.number ∙ sym (ap (λ (z : Day). year_length z.year) is_b)) in
      same-leap (is_leap a.year) (is_leap b.year) (sym of-a ∙ (ap (λ (z : Day). z.yeardays) e ∙ of-b))

  in-year-alike : a.monthdays ≤ a.monthday → a.month < 12 → any_year (day_at (a.number + 1)) ≡ any_year (day_at (b.number + 1))
  unfolding new_month month_length
  in-year-alike last more =
      let day = ap (λ (z : Day). z.monthday) e in
      let days = ap (λ (z : Day). z.monthdays) e in
      let month = ap (λ (z : Day). z.month) e in
      sym (ap any_year (step-year a is-a h-a last more))
      ∙ (ap (λ (leap : Bool). new_month leap (any_year a)) leap-alike
      ∙ (ap (new_month (is_leap b.year)) e ∙ ap any_year (step-year b is_b h-b (omega arith) (omega arith))))

-- ---- the days of two years

module _ (x : Day) (new : NewYear x) (high : x.number < end_day) (k : ℕ) (h : k < x.yeardays) where
  few : x.yeardays ≤ 366
  few = (in-calendar x x.number new.day (omega arith)).yeardays

  pub year-known : x.number + k < day_count
  year-known = omega (arith, few)

  pub of-year : Later Yearly 0 x k (day_at (x.number + k))
  unfolding since_first days_of
  of-year = in-period Yearly 0 x new.day (omega arith) k year-known (omega (arith, new.yearday))

  pub year-at : (day_at (x.number + k)).yearday ≡ k
  unfolding since_first
  year-at = omega (arith, of-year.since, new.yearday)

  pub year-whole : (day_at (x.number + k)).yeardays ≡ x.yeardays
  unfolding days_of
  year-whole = of-year.whole

  pub year-same : (day_at (x.number + k)).year ≡ x.year
  unfolding period_of
  year-same = of-year.period

module _ (x y : Day) (new-x : NewYear x) (new-y : NewYear y) (high-x : x.number < end_day) (high-y : y.number < end_day)
    (weekday : x.weekday ≡ y.weekday) (yeardays : x.yeardays ≡ y.yeardays) where
  first_alike : any_year x ≡ any_year y
  first_alike =
      let yearday : x.yearday ≡ y.yearday = new-x.yearday ∙ sym new-y.yearday in
      let month : x.month ≡ y.month = new-x.month ∙ sym new-y.month in
      let monthday : x.monthday ≡ y.monthday = new-x.monthday ∙ sym new-y.monthday in
      let monthdays : x.monthdays ≡ y.monthdays = new-x.monthdays ∙ sym new-y.monthdays in
      λ i.
      record {
        number = 0;
        weekday = weekday i;
        year = 0;
        yearday = yearday i;
        yeardays = yeardays i;
        month = month i;
        monthday = monthday i;
        monthdays = monthdays i;
      }

  pub days-alike : (k : ℕ) → k < x.yeardays → any_year (day_at (x.number + k)) ≡ any_year (day_at (y.number + k))
  days-alike zero h =
      let here-x : x.number + 0 ≡ x.number = omega arith in
      let here-y : y.number + 0 ≡ y.number = omega arith in
      ap any_year (ap day_at here-x ∙ sym new-x.day) ∙ (first_alike ∙ ap any_year (new-y.day ∙ sym (ap day_at here-y)))
  days-alike (suc k) h =
      let a = day_at (x.number + k) in
      let b = day_at (y.number + k) in
      let at_a : a.number ≡ x.number + k = day-number (x.number + k) in
      let at_b : b.number ≡ y.number + k = day-number (y.number + k) in
      let is-a : a ≡ day_at a.number = ap day_at (sym at_a) in
      let is_b : b ≡ day_at b.number = ap day_at (sym at_b) in
      let known-a : x.number + suc k < day_count = year-known x new-x high-x (suc k) h in
      let known-b : y.number + suc k < day_count = year-known y new-y high-y (suc k) (omega arith) in
      let next-a : a.number + 1 ≡ x.number + suc k = omega arith in
      let next-b : b.number + 1 ≡ y.number + suc k = omega arith in
      let before = days-alike k (omega arith) in
      let go : any_year (day_at (a.number + 1)) ≡ any_year (day_at (b.number + 1)) =
      by (ltb a.monthday a.monthdays)
      (λ e. in-month-alike a b is-a is_b (omega arith) (omega arith) before (ltb-true a.monthday a.monthdays e))
      (λ e.
      by (ltb a.month 12)
      (λ f. in-year-alike a b is-a is_b (omega arith) (omega arith) before (ltb-false a.monthday a.monthdays e) (ltb-true a.month 12 f))
      (λ f.
      let turned = ap (λ (z : Day). z.yearday) (step-next-year a is-a (omega arith) (ltb-false a.monthday a.monthdays e) (ltb-false a.month 12 f)) in
      let there = ap (λ (n : ℕ). (day_at n).yearday) next-a in
      absurd (omega (arith, year-at x new-x high-x (suc k) h))))
      in
      ap (λ (n : ℕ). any_year (day_at n)) (sym next-a) ∙ (go ∙ ap (λ (n : ℕ). any_year (day_at n)) next-b)
