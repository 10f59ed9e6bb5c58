-- The days of one period, from one of them on.
use Prim.Native.Nat.{ℕ, zero, suc, ◌+◌, ◌-◌, ◌*◌, ◌<◌}
use mathlib.Core.Bool.{false}
use mathlib.Core.Path.{◌≡◌, refl, sym, ap, ◌∙◌}
use native.Mathlib.Omega.{arith}
use lib.Dec.{ltb}
use borrow.Author.Tests.{ltb-true, ltb-false}
use Rattle.gregorian.specs.Days.{day_count}
use Rattle.gregorian.specs.Year.{year_length, first_of_year}
use Rattle.gregorian.proofs.YearLaws.{first-suc}
use Rattle.rule.specs.declared.Frequency.{Frequency}
use Rattle.rule.specs.declared.Frequency.TheVariants.{Daily, Weekly, Monthly, Yearly}
use Rattle.rule.specs.declared.Day.{Day}
use Rattle.rule.specs.Day.{on_date, day_at}
use Rattle.rule.specs.Period.{period_of, since_first, days_of}
use Rattle.rule.proofs.Bools.{by}
use Rattle.rule.proofs.DayLaws.{of-day, step-month, step-year, step-next-year, year-start-of}
use Rattle.rule.proofs.PeriodLaws.{day-number}
use Rattle.matcher.proofs.WalkLaws.{number_is}
use Rattle.matcher.specs.declared.Terms.{Terms}
use Rattle.matcher.specs.Inner.Walk.{step_by}
use Rattle.track.specs.Inner.Skips.{Without, step_on}
use Rattle.track.specs.Inner.Places.{InPeriod}
use Rattle.track.proofs.StepLaws.{SamePeriod, same-period}

pub year-length-of : (n : ℕ) → (day_at n).yeardays ≡ year_length (day_at n).year
unfolding day_at on_date
year-length-of n = refl

module _ (w : ℕ) (x y : Day) (is : x ≡ day_at x.number) (h : x.number + 1 < day_count) (e : y ≡ day_at (x.number + 1)) (week : w < 7) where
  -- a day that one of the next year follows is the last of its own
  year-over : y.year ≡ x.year + 1 → y.yearday ≡ 0 → x.yearday + 1 ≡ x.yeardays
  year-over year first =
      let low = (of-day x is h).year_low in
      let here : first_of_year (x.year - 1600) + x.yearday ≡ x.number =
      ap (λ (d : Day). first_of_year (d.year - 1600) + d.yearday) is ∙ year-start-of x.number (omega arith) in
      let there : first_of_year (y.year - 1600) + y.yearday ≡ x.number + 1 =
      ap (λ (d : Day). first_of_year (d.year - 1600) + d.yearday) e ∙ year-start-of (x.number + 1) h in
      let whole : x.yeardays ≡ year_length x.year =
      ap (λ (d : Day). d.yeardays) is ∙ (year-length-of x.number ∙ sym (ap (λ (d : Day). year_length d.year) is)) in
      let one : 1600 + (x.year - 1600) ≡ x.year = omega arith in
      let after : y.year - 1600 ≡ suc (x.year - 1600) = omega arith in
      let next : first_of_year (suc (x.year - 1600)) ≡ first_of_year (x.year - 1600) + year_length x.year =
      first-suc (x.year - 1600) ∙ ap (λ (z : ℕ). first_of_year (x.year - 1600) + year_length z) one in
      omega (arith, here, there, ap first_of_year after, next, whole)

  -- the day after one that is not the last of its period is not the first of another
  not_first : (f : Frequency) → since_first f w x + 1 < days_of f x → since_first f w y ≡ 0 → ⊥
  unfolding since_first days_of
  not_first Daily more first = omega arith
  not_first Weekly more first = let at = number_is y (x.number + 1) e in omega arith
  not_first Monthly more first =
      let low = (of-day x is h).monthday_low in
      let day = ap (λ (d : Day). d.monthday) (e ∙ sym (step-month x is h (omega arith))) in
      omega arith
  not_first Yearly more first =
      by (ltb x.monthday x.monthdays)
      (λ b.
      let day = ap (λ (d : Day). d.yearday) (e ∙ sym (step-month x is h (ltb-true x.monthday x.monthdays b))) in
      omega arith)
      (λ b.
      by (ltb x.month 12)
      (λ c.
      let day = ap (λ (d : Day). d.yearday) (e ∙ sym (step-year x is h (ltb-false x.monthday x.monthdays b) (ltb-true x.month 12 c))) in
      omega arith)
      (λ c.
      let year = ap (λ (d : Day). d.year) (e ∙ sym (step-next-year x is h (ltb-false x.monthday x.monthdays b) (ltb-false x.month 12 c))) in
      omega (arith, year-over year first)))

  same_number : (f : Frequency) → since_first f w x + 1 < days_of f x → period_of f w y ≡ period_of f w x
  unfolding since_first days_of period_of
  same_number Daily more = omega arith
  same_number Weekly more = let at = number_is y (x.number + 1) e in omega arith
  same_number Monthly more =
      let low = (of-day x is h).monthday_low in
      ap (λ (d : Day). 12 * d.year + d.month) (e ∙ sym (step-month x is h (omega arith)))
  same_number Yearly more =
      by (ltb x.monthday x.monthdays)
      (λ b. ap (λ (d : Day). d.year) (e ∙ sym (step-month x is h (ltb-true x.monthday x.monthdays b))))
      (λ b.
      by (ltb x.month 12)
      (λ c.
      ap (λ (d : Day). d.year) (e ∙ sym (step-year x is h (ltb-false x.monthday x.monthdays b) (ltb-true x.month 12 c))))
      (λ c.
      let next = step-next-year x is h (ltb-false x.monthday x.monthdays b) (ltb-false x.month 12 c) in
      let year = ap (λ (d : Day). d.year) (e ∙ sym next) in
      let first = ap (λ (d : Day). d.yearday) (e ∙ sym next) in
      absurd (omega (arith, year-over year first))))

  pub next-in-period : (f : Frequency) → since_first f w x + 1 < days_of f x → SamePeriod f w x y
  next-in-period f more = same-period w x y is h e week f (not_first f more)

-- k days later in the same period
pub record Later (f : Frequency) (w : ℕ) (x : Day) (k : ℕ) (y : Day) : Type 0 where
  pub since : since_first f w y ≡ since_first f w x + k
  pub whole : days_of f y ≡ days_of f x
  pub period : period_of f w y ≡ period_of f w x

module _ (f : Frequency) (w : ℕ) (x : Day) (is : x ≡ day_at x.number) (week : w < 7) where
  pub in-period : (k : ℕ) → x.number + k < day_count → since_first f w x + k < days_of f x → Later f w x k (day_at (x.number + k))
  in-period zero h more =
      let here : x.number + 0 ≡ x.number = omega arith in
      let same : day_at (x.number + 0) ≡ x = ap day_at here ∙ sym is in
      record { since = ap (since_first f w) same ∙ (omega arith); whole = ap (days_of f) same; period = ap (period_of f w) same }
  in-period (suc k) h more =
      let before = in-period k (omega arith) (omega arith) in
      let at = day-number (x.number + k) in
      let next : x.number + suc k ≡ (day_at (x.number + k)).number + 1 = omega arith in
      let less : since_first f w (day_at (x.number + k)) + 1 < days_of f (day_at (x.number + k)) = omega (arith, before.since, before.whole) in
      let p = next-in-period w (day_at (x.number + k)) (day_at (x.number + suc k)) (ap day_at (sym at)) (omega arith) (ap day_at next) week f less in
      let q = same_number w (day_at (x.number + k)) (day_at (x.number + suc k)) (ap day_at (sym at)) (omega arith) (ap day_at next) week f less in
      record { since = omega (arith, p.since, before.since); whole = p.whole ∙ before.whole; period = q ∙ before.period }

-- a period out of step is so to its end
pub period-without : (t : Terms) (x : Day) (n : ℕ) → x ≡ day_at x.number → t.first < 7 → step_by t x ≡ false → InPeriod t x n
    → Without (step_on t) x.number n
unfolding step_on step_by
period-without t x n is week out p =
    record {
      none = λ j low high.
          let there : x.number + (j - x.number) ≡ j = omega arith in
          let q = in-period t.frequency t.first x is week (j - x.number) (omega (arith, p.known)) (omega (arith, p.within)) in
          let same : period_of t.frequency t.first (day_at j) ≡ period_of t.frequency t.first x =
          sym (ap (λ (i : ℕ). period_of t.frequency t.first (day_at i)) there) ∙ q.period
          in
          rw same out;
      few = omega (arith, p.known);
    }
