-- The days just before a year and just after it, which its first and its last week may hold: from year to year they agree in all but
-- their number, their year and their place in it.
use Prim.Native.Nat.{ℕ, zero, suc, ◌+◌, ◌-◌, ◌%◌, ◌<◌, ◌≤◌}
use mathlib.Core.Bool.{Bool, true, false}
use mathlib.Core.List.{List}
use mathlib.Core.Path.{◌≡◌, refl, sym, ap, ◌∙◌, subst}
use native.Mathlib.Omega.{arith}
use lib.Dec.{ltb}
use borrow.Author.Tests.{ltb-true, ltb-false}
use Rattle.gregorian.specs.Year.{is_leap}
use Rattle.gregorian.specs.Month.{length_in, month_length}
use Rattle.gregorian.specs.Days.{day_count, weekday_of}
use Rattle.rule.specs.declared.Day.{Day}
use Rattle.rule.specs.Day.{on_date, day_at}
use Rattle.rule.specs.Gives.{end_day}
use Rattle.rule.proofs.Bools.{by}
use Rattle.rule.proofs.DayLaws.{day-facts, step-month, step-year, step-next-year, year-within}
use Rattle.rule.proofs.PeriodLaws.{day-number}
use Rattle.matcher.specs.Inner.Flags.{month_by, date_by, day_by, stays_by}
use Rattle.track.specs.Inner.Years.{NewYear}
use Rattle.track.proofs.LeapLaws.{new-year}
use Rattle.track.proofs.SkipLaws.{in-same-month}
use Rattle.track.proofs.YearDayLaws.{days-alike}

-- a day of any year, at any place in it
abbrev pub any_place : Day → Day
any_place x =
    record {
      number = 0;
      weekday = x.weekday;
      year = 0;
      yearday = 0;
      yeardays = 0;
      month = x.month;
      monthday = x.monthday;
      monthdays = x.monthdays;
    }

pub stays-anywhere : (row : List Bool) (x y : Day) → any_place x ≡ any_place y → stays_by row false x ≡ stays_by row false y
unfolding stays_by month_by date_by day_by
stays-anywhere row x y e = ap (stays_by row false) e

place-alike : (a b : Day) → a.weekday ≡ b.weekday → a.month ≡ b.month → a.monthday ≡ b.monthday → a.monthdays ≡ b.monthdays
    → any_place a ≡ any_place b
place-alike a b weekday month monthday monthdays =
    λ i.
    record {
      number = 0;
      weekday = weekday i;
      year = 0;
      yearday = 0;
      yeardays = 0;
      month = month i;
      monthday = monthday i;
      monthdays = monthdays i;
    }

weekday-of : (n : ℕ) → (day_at n).weekday ≡ (n + 5) % 7
unfolding day_at on_date weekday_of
weekday-of n = refl

december-length : (n : ℕ) → (day_at n).month ≡ 12 → (day_at n).monthdays ≡ 31
unfolding day_at on_date month_length length_in
december-length n e = rw e (of (is_leap (day_at n).year))
  where
    of : (leap : Bool) → length_in leap 12 ≡ 31
    of true = refl
    of false = refl

-- the first day of the next year
pub new-after : (x : Day) → x ≡ day_at x.number → x.number + (x.yeardays - x.yearday) < day_count
    → NewYear (day_at (x.number + (x.yeardays - x.yearday)))
new-after x is h =
    let next = new-year x is h in
    record {
      day = ap day_at (sym (day-number (x.number + (x.yeardays - x.yearday))));
      yearday = sym (ap (λ (d : Day). d.yearday) next);
      month = sym (ap (λ (d : Day). d.month) next);
      monthday = sym (ap (λ (d : Day). d.monthday) next);
      monthdays = sym (ap (λ (d : Day). d.monthdays) next);
    }

module _ (x : Day) (new : NewYear x) (low : 366 ≤ x.number) (high : x.number < end_day) where
  -- ---- the days before

  record December (j : ℕ) (z : Day) : Type 0 where
    month : z.month ≡ 12
    monthday : z.monthday + j ≡ 32
    monthdays : z.monthdays ≡ 31

  december : (j : ℕ) → j < 6 → December (suc j) (day_at (x.number - suc j))
  december zero h =
      let n = x.number - 1 in
      let z = day_at n in
      let at : z.number ≡ n = day-number n in
      let is : z ≡ day_at z.number = ap day_at (sym at) in
      let facts = day-facts n (omega arith) in
      let next : day_at (z.number + 1) ≡ x = ap day_at (omega arith) ∙ sym new.day in
      by (ltb z.monthday z.monthdays)
      (λ e.
      let on = ap (λ (d : Day). d.monthday) (step-month z is (omega arith) (ltb-true z.monthday z.monthdays e) ∙ next) in
      absurd (omega (arith, facts.monthday_low, new.monthday)))
      (λ e.
      by (ltb z.month 12)
      (λ f.
      let on = ap (λ (d : Day). d.month) (step-year z is (omega arith) (ltb-false z.monthday z.monthdays e) (ltb-true z.month 12 f) ∙ next) in
      absurd (omega (arith, facts.month_low, new.month)))
      (λ f.
      let month : z.month ≡ 12 = omega (arith, facts.month_high, ltb-false z.month 12 f) in
      let monthdays : z.monthdays ≡ 31 = december-length n month in
      record { month = month; monthday = omega (arith, facts.monthday_high, ltb-false z.monthday z.monthdays e); monthdays = monthdays }))
  december (suc j) h =
      let n = x.number - suc (suc j) in
      let z = day_at n in
      let at : z.number ≡ n = day-number n in
      let is : z ≡ day_at z.number = ap day_at (sym at) in
      let after = december j (omega arith) in
      let next : day_at (z.number + 1) ≡ day_at (x.number - suc j) = ap day_at (omega arith) in
      by (ltb z.monthday z.monthdays)
      (λ e.
      let on = step-month z is (omega arith) (ltb-true z.monthday z.monthdays e) ∙ next in
      let month = ap (λ (d : Day). d.month) on in
      let monthday = ap (λ (d : Day). d.monthday) on in
      let monthdays = ap (λ (d : Day). d.monthdays) on in
      record { month = month ∙ after.month; monthday = omega (arith, after.monthday); monthdays = monthdays ∙ after.monthdays })
      (λ e.
      by (ltb z.month 12)
      (λ f.
      let on = ap (λ (d : Day). d.monthday) (step-year z is (omega arith) (ltb-false z.monthday z.monthdays e) (ltb-true z.month 12 f) ∙ next) in
      absurd (omega (arith, after.monthday)))
      (λ f.
      let on = ap (λ (d : Day). d.monthday) (step-next-year z is (omega arith) (ltb-false z.monthday z.monthdays e) (ltb-false z.month 12 f) ∙ next) in
      absurd (omega (arith, after.monthday))))

  -- ---- the days after

  pub year-ends : x.number + x.yeardays ≤ end_day
  year-ends =
      let within : x.number - x.yearday + x.yeardays ≤ end_day =
      subst (λ (d : Day). x.number - d.yearday + d.yeardays ≤ end_day) (sym new.day) (year-within x.number (omega arith) high)
      in
      omega (arith, new.yearday)

  pub next-new : NewYear (day_at (x.number + x.yeardays))
  next-new =
      let there : x.number + (x.yeardays - x.yearday) ≡ x.number + x.yeardays = omega (arith, new.yearday) in
      subst (λ (n : ℕ). NewYear (day_at n)) there (new-after x new.day (omega (arith, year-ends)))

  record January (j : ℕ) (z : Day) : Type 0 where
    month : z.month ≡ 1
    monthday : z.monthday ≡ 1 + j
    monthdays : z.monthdays ≡ 31

  january : (j : ℕ) → j < 6 → January j (day_at (x.number + x.yeardays + j))
  january j h =
      let n = x.number + x.yeardays in
      let z = day_at n in
      let new-z = next-new in
      let at : z.number ≡ n = day-number n in
      let there : z.number + j ≡ n + j = omega arith in
      let is = in-same-month z new-z.day j (omega (arith, year-ends)) (omega (arith, new-z.monthday, new-z.monthdays)) ∙ ap day_at there in
      record {
        month = sym (ap (λ (d : Day). d.month) is) ∙ new-z.month;
        monthday = sym (ap (λ (d : Day). d.monthday) is) ∙ ap (λ (i : ℕ). i + j) new-z.monthday;
        monthdays = sym (ap (λ (d : Day). d.monthdays) is) ∙ new-z.monthdays;
      }

module _ (x y : Day) (new-x : NewYear x) (new-y : NewYear y) (low_x : 366 ≤ x.number) (low-y : 366 ≤ y.number)
    (high-x : x.number < end_day) (high-y : y.number < end_day) (weekday : x.weekday ≡ y.weekday) (yeardays : x.yeardays ≡ y.yeardays) where
  same-weekday : (x.number + 5) % 7 ≡ (y.number + 5) % 7
  same-weekday =
      let of-x : x.weekday ≡ (x.number + 5) % 7 = ap (λ (z : Day). z.weekday) new-x.day ∙ weekday-of x.number in
      let of-y : y.weekday ≡ (y.number + 5) % 7 = ap (λ (z : Day). z.weekday) new-y.day ∙ weekday-of y.number in
      sym of-x ∙ (weekday ∙ of-y)

  before-alike : (j : ℕ) → j < 6 → any_place (day_at (x.number - suc j)) ≡ any_place (day_at (y.number - suc j))
  before-alike j h =
      let p = december x new-x low_x high-x j h in
      let q = december y new-y low-y high-y j h in
      let days : (x.number - suc j + 5) % 7 ≡ (y.number - suc j + 5) % 7 = omega (arith, same-weekday) in
      place-alike (day_at (x.number - suc j)) (day_at (y.number - suc j)) (weekday-of (x.number - suc j) ∙ (days ∙ sym (weekday-of (y.number - suc j)))) (p.month ∙ sym q.month)
      (omega (arith, p.monthday, q.monthday)) (p.monthdays ∙ sym q.monthdays)

  behind-alike : (j : ℕ) → j < 6 → any_place (day_at (x.number + x.yeardays + j)) ≡ any_place (day_at (y.number + y.yeardays + j))
  behind-alike j h =
      let p = january x new-x low_x high-x j h in
      let q = january y new-y low-y high-y j h in
      let days : (x.number + x.yeardays + j + 5) % 7 ≡ (y.number + y.yeardays + j + 5) % 7 = omega (arith, same-weekday) in
      place-alike (day_at (x.number + x.yeardays + j)) (day_at (y.number + y.yeardays + j)) (weekday-of (x.number + x.yeardays + j) ∙ (days ∙ sym (weekday-of (y.number + y.yeardays + j)))) (p.month ∙ sym q.month)
      (p.monthday ∙ sym q.monthday) (p.monthdays ∙ sym q.monthdays)

  -- six days before, those of the year, and six after
  pub around-alike : (j : ℕ) → j < x.yeardays + 12 → any_place (day_at (x.number - 6 + j)) ≡ any_place (day_at (y.number - 6 + j))
  around-alike j h =
      by (ltb j 6)
      (λ e.
      let early = ltb-true j 6 e in
      let at_x : x.number - suc (5 - j) ≡ x.number - 6 + j = omega arith in
      let at_y : y.number - suc (5 - j) ≡ y.number - 6 + j = omega arith in
      moved at_x at_y (before-alike (5 - j) (omega arith)))
      (λ e.
      let late = ltb-false j 6 e in
      by (ltb j (6 + x.yeardays))
      (λ f.
      let inside = ltb-true j (6 + x.yeardays) f in
      let at_x : x.number + (j - 6) ≡ x.number - 6 + j = omega arith in
      let at_y : y.number + (j - 6) ≡ y.number - 6 + j = omega arith in
      moved at_x at_y (ap any_place (days-alike x y new-x new-y high-x high-y weekday yeardays (j - 6) (omega arith))))
      (λ f.
      let outside = ltb-false j (6 + x.yeardays) f in
      let at_x : x.number + x.yeardays + (j - 6 - x.yeardays) ≡ x.number - 6 + j = omega arith in
      let at_y : y.number + y.yeardays + (j - 6 - x.yeardays) ≡ y.number - 6 + j = omega arith in
      moved at_x at_y (behind-alike (j - 6 - x.yeardays) (omega arith))))
    where
      moved : {m n k l : ℕ} → m ≡ k → n ≡ l → any_place (day_at m) ≡ any_place (day_at n) → any_place (day_at k) ≡ any_place (day_at l)
      moved e f g = rw (sym e, sym f) g
