-- Days that are passed at once: what their month and their period are, and that the rule has none of them.
use Rattle.std.specs.Prelude.{if◌then◌else◌}
use Prim.Native.Nat.{ℕ, zero, suc, ◌+◌, ◌-◌, ◌*◌, ◌%◌, ◌^◌, ◌<◌, ◌≤◌}
use mathlib.Core.Bool.{Bool, true, false}
use mathlib.Core.List.{List}
use mathlib.Core.Path.{◌≡◌, refl, sym, ap, ◌∙◌, subst}
use native.Mathlib.Omega.{arith}
use native.Mathlib.Nat.{mod-add-mod, mod-eq_of_lt, mod-lt}
use lib.Dec.{ltb}
use lib.ListN.{get_or}
use borrow.Author.Tests.{ltb-true, ltb-false, ne_eqb}
use Rattle.gregorian.specs.Days.{day_count, date_of}
use Rattle.gregorian.specs.Month.{month_start}
use Rattle.gregorian.proofs.MonthLaws.{month-next, month-mono, year-is-months}
use Rattle.gregorian.proofs.RoundTrips.{date-parts}
use Rattle.rule.specs.declared.Frequency.{Frequency}
use Rattle.rule.specs.declared.Frequency.TheVariants.{Daily, Weekly, Monthly, Yearly}
use Rattle.rule.specs.declared.Day.{Day}
use Rattle.rule.specs.Day.{on_date, day_at}
use Rattle.rule.specs.Period.{period_of, since_first, days_of}
use Rattle.rule.specs.Gives.{end_day}
use Rattle.rule.specs.Inner.Bounds.{InCalendar}
use Rattle.rule.proofs.Bools.{by}
use Rattle.rule.proofs.DayLaws.{step-month, year-within}
use Rattle.rule.proofs.PeriodLaws.{day-number}
use Rattle.matcher.specs.declared.Terms.{Terms}
use Rattle.matcher.specs.Inner.Flags.{month_by, stays_by}
use Rattle.matcher.specs.Inner.Walk.{step_by, picks_by, picks_on_by}
use Rattle.matcher.proofs.WalkLaws.{in-calendar}
use Rattle.track.specs.Inner.Skips.{Without, Between, MonthsUnset, step_at, step_on, month_on, to_month_end, days_ahead}
use Rattle.track.proofs.SpanLaws.{Later, in-period}

-- ---- a day and the months of its year

month-holds : (n : ℕ) → n < day_count
    → (month_start (day_at n).year (day_at n).month ≤ (day_at n).yearday) × ((day_at n).yearday < month_start (day_at n).year (suc (day_at n).month))
unfolding day_at on_date
month-holds n h =
    let p = date-parts n h in
    (omega arith, omega (arith, p.first, p.last, month-next (date_of n).year (date_of n).month))

year-of-months : (n : ℕ) → (day_at n).yeardays ≡ month_start (day_at n).year 13
unfolding day_at on_date
year-of-months n = year-is-months (date_of n).year

-- ---- months that are looked at one by one

pub unset-none : (row : List Bool) (a : ℕ) → a ≤ 13 → MonthsUnset row a a
unset-none row a h = record { low = omega arith; high = h; none = λ i low high. absurd (omega arith) }

pub unset-more : (row : List Bool) (a b : ℕ) → MonthsUnset row a b → b < 13 → get_or row b false ≡ false → MonthsUnset row a (b + 1)
unset-more row a b w more out =
    record {
      low = omega (arith, w.low);
      high = omega arith;
      none = λ i low high.
          by (ltb i b) (λ e. w.none i low (ltb-true i b e))
          (λ e. let same : b ≡ i = omega (arith, ltb-false i b e) in subst (λ (k : ℕ). get_or row k false ≡ false) same out);
    }

-- ---- days of one month

abbrev pub later : Day → ℕ → Day
later x k =
    record {
      number = x.number + k;
      weekday = (x.weekday + k) % 7;
      year = x.year;
      yearday = x.yearday + k;
      yeardays = x.yeardays;
      month = x.month;
      monthday = x.monthday + k;
      monthdays = x.monthdays;
    }

module _ (x : Day) (is : x ≡ day_at x.number) where
  same-day : x.weekday < 7 → later x 0 ≡ x
  same-day h =
      let weekday : (x.weekday + 0) % 7 ≡ x.weekday = omega arith in
      let number : x.number + 0 ≡ x.number = omega arith in
      let yearday : x.yearday + 0 ≡ x.yearday = omega arith in
      let monthday : x.monthday + 0 ≡ x.monthday = omega arith in
      λ i.
      record {
        number = number i;
        weekday = weekday i;
        year = x.year;
        yearday = yearday i;
        yeardays = x.yeardays;
        month = x.month;
        monthday = monthday i;
        monthdays = x.monthdays;
      }

  one_later : (k : ℕ) → later (later x k) 1 ≡ later x (suc k)
  one_later k =
      let weekday : ((x.weekday + k) % 7 + 1) % 7 ≡ (x.weekday + suc k) % 7 = omega arith in
      let number : x.number + k + 1 ≡ x.number + suc k = omega arith in
      let yearday : x.yearday + k + 1 ≡ x.yearday + suc k = omega arith in
      let monthday : x.monthday + k + 1 ≡ x.monthday + suc k = omega arith in
      λ i.
      record {
        number = number i;
        weekday = weekday i;
        year = x.year;
        yearday = yearday i;
        yeardays = x.yeardays;
        month = x.month;
        monthday = monthday i;
        monthdays = x.monthdays;
      }

  pub in-same-month : (k : ℕ) → x.number + k < day_count → x.monthday + k ≤ x.monthdays → later x k ≡ day_at (x.number + k)
  in-same-month zero h m =
      let here : x.number + 0 ≡ x.number = omega arith in
      same-day (in-calendar x x.number is (omega arith)).weekday ∙ (is ∙ ap day_at (sym here))
  in-same-month (suc k) h m =
      let before = in-same-month k (omega arith) (omega arith) in
      let next : x.number + k + 1 ≡ x.number + suc k = omega arith in
      sym (one_later k) ∙ (step-month (later x k) before (omega arith) (omega arith) ∙ ap day_at next)

  module _ (known : x.number < end_day) where
    facts : InCalendar x
    facts = in-calendar x x.number is (omega arith)

    -- the days up to the end of the month, by their numbers
    month-day : (j : ℕ) → x.number ≤ j → j < x.number + to_month_end x → later x (j - x.number) ≡ day_at j
    unfolding to_month_end
    month-day j low high =
        let there : x.number + (j - x.number) ≡ j = omega arith in
        in-same-month (j - x.number) (omega (arith, facts.monthdays)) (omega (arith, facts.monthday_high)) ∙ ap day_at there

    pub month-few : to_month_end x ≤ 31
    unfolding to_month_end
    month-few = omega (arith, facts.monthday_low, facts.monthdays)

    pub month-reaches : (k : ℕ) → k < to_month_end x → (x.number + k < day_count) × (x.monthday + k ≤ x.monthdays)
    unfolding to_month_end
    month-reaches k h = (omega (arith, facts.monthdays), omega (arith, facts.monthday_low))

    -- the days up to the end of the year, by their numbers
    year-known : (j : ℕ) → j < x.number + (x.yeardays - x.yearday) → j < end_day
    year-known j high =
        let within : x.number - x.yearday + x.yeardays ≤ end_day =
        subst (λ (d : Day). x.number - d.yearday + d.yeardays ≤ end_day) (sym is) (year-within x.number (omega arith) known)
        in
        omega (arith, facts.yearday, facts.yeardays)

    year-day : (j : ℕ) → x.number ≤ j → j < x.number + (x.yeardays - x.yearday) → Later Yearly 0 x (j - x.number) (day_at j)
    unfolding since_first days_of
    year-day j low high =
        let there : x.number + (j - x.number) ≡ j = omega arith in
        subst (λ (i : ℕ). Later Yearly 0 x (j - x.number) (day_at i)) there
        (in-period Yearly 0 x is (omega arith) (j - x.number) (omega (arith, year-known j high)) (omega arith))

    -- ---- months that are not set

    all-months : x.yeardays ≡ month_start x.year 13
    all-months = subst (λ (d : Day). d.yeardays ≡ month_start d.year 13) (sym is) (year-of-months x.number)

    month-begun : (month_start x.year x.month ≤ x.yearday) × (x.yearday < month_start x.year (suc x.month))
    month-begun =
        subst (λ (d : Day). (month_start d.year d.month ≤ d.yearday) × (d.yearday < month_start d.year (suc d.month))) (sym is)
        (month-holds x.number (omega arith))

    module _ (m : ℕ) (most : m ≤ 13) where
      within-months : month_start x.year m ≤ x.yeardays
      within-months = omega (arith, all-months, month-mono x.year m 13 most)

      pub behind-month : x.month < m → x.yearday < month_start x.year m
      behind-month more = omega (arith, month-begun.1, month-mono x.year (suc x.month) m more)

      months-ahead : (j : ℕ) → x.number ≤ j → j < x.number + (month_start x.year m - x.yearday) → (x.month ≤ (day_at j).month) × ((day_at j).month < m)
      unfolding since_first period_of
      months-ahead j low high =
          let k = (day_at j).month in
          let inside : j < x.number + (x.yeardays - x.yearday) = omega (arith, within-months) in
          let far = year-day j low inside in
          let at : (day_at j).yearday ≡ x.yearday + (j - x.number) = far.since in
          let held : (month_start x.year k ≤ (day_at j).yearday) × ((day_at j).yearday < month_start x.year (suc k)) =
          subst (λ (y : ℕ). (month_start y k ≤ (day_at j).yearday) × ((day_at j).yearday < month_start y (suc k))) far.period
          (month-holds j (omega (arith, year-known j inside)))
          in (
            by (ltb k x.month)
                (λ e. absurd (omega (arith, held.1, month-begun.0, at, month-mono x.year (suc k) x.month (ltb-true k x.month e))))
                (λ e. ltb-false k x.month e),
            by (ltb k m) (λ e. ltb-true k m e) (λ e. absurd (omega (arith, held.0, at, month-mono x.year m k (ltb-false k m e)))),
          )

    pub months-without : (row : List Bool) (m : ℕ) → MonthsUnset row x.month m
        → Without (month_on row) x.number (month_start x.year m - x.yearday)
    unfolding month_on month_by
    months-without row m unset =
        record {
          none = λ j low high.
              let there = months-ahead m unset.high j low high in
              unset.none (day_at j).month there.0 there.1;
          few = omega (arith, within-months m unset.high, facts.yeardays);
        }

    -- the period of a day ahead: the own one, or one of those that are counted with it
    period-ahead : (f : Frequency) (w n j : ℕ) → w < 7 → 1 ≤ n → x.number ≤ j → j < x.number + days_ahead f w n x
        → (period_of f w x ≤ period_of f w (day_at j)) × (period_of f w (day_at j) < period_of f w x + n)
    unfolding period_of days_ahead
    period-ahead Daily w n j week some_periods low high = let at = day-number j in (omega arith, omega arith)
    period-ahead Weekly w n j week some_periods low high = let at = day-number j in (omega arith, omega arith)
    period-ahead Monthly w n j week some_periods low high =
        let same = ap (λ (d : Day). 12 * d.year + d.month) (month-day j low high) in (omega arith, omega arith)
    period-ahead Yearly w n j week some_periods low high =
        let same = (year-day j low high).period in (omega arith, omega arith)

    ahead-few : (f : Frequency) (w n : ℕ) → n ≤ end_day → days_ahead f w n x < 2 ^ 31
    unfolding days_ahead
    ahead-few Daily w n most = omega arith
    ahead-few Weekly w n most = omega arith
    ahead-few Monthly w n most = omega (arith, month-few)
    ahead-few Yearly w n most = omega (arith, facts.yeardays)

    pub ahead-without : (t : Terms) (period n : ℕ) → t.first < 7 → period ≡ period_of t.frequency t.first x → 1 ≤ n → n ≤ end_day
        → Without (step_at t) period n → Without (step_on t) x.number (days_ahead t.frequency t.first n x)
    unfolding step_on step_by step_at
    ahead-without t period n week is-period some_periods most out =
        record {
          none = λ j low high.
              let there = period-ahead t.frequency t.first n j week some_periods low high in
              out.none (period_of t.frequency t.first (day_at j)) (omega (arith, there.0)) (omega (arith, there.1));
          few = ahead-few t.frequency t.first n most;
        }

-- ---- periods out of step

pub without-none : (p : ℕ → Bool) (d : ℕ) → Without p d 0
without-none p d = record { none = λ j low high. absurd (omega arith); few = omega arith }

module _ (t : Terms) (period : ℕ) (wide : 1 < t.interval) (after : t.period < period) where
  pub over-less : (period - t.period) % t.interval < t.interval
  over-less = mod-lt (period - t.period) (omega arith)

  pub periods-without : ((period - t.period) % t.interval ≡ 0 → ⊥) → (n : ℕ) → n ≤ t.interval - (period - t.period) % t.interval → n ≤ end_day
      → Without (step_at t) period n
  unfolding step_at
  periods-without out n less most =
      record {
        none = λ j low high.
            let far : (period - t.period) + (j - period) ≡ j - t.period = omega arith in
            let small : (period - t.period) % t.interval + (j - period) < t.interval = omega (arith, over-less) in
            let left : (j - t.period) % t.interval ≡ (period - t.period) % t.interval + (j - period) =
            ap (λ (k : ℕ). k % t.interval) (sym far)
            ∙ (sym (mod-add-mod (period - t.period) t.interval (j - period)) ∙ mod-eq_of_lt small)
            in
            ne_eqb ((j - t.period) % t.interval) 0 (λ none. out (omega arith));
        few = omega arith;
      }

-- ---- what the rule has none of

module _ (t : Terms) (row : List Bool) (d n : ℕ) where
  pub skip-out-of-step : Without (step_on t) d n → Without (picks_on_by t row) d n
  unfolding picks_on_by picks_by step_on
  skip-out-of-step out =
      record { none = λ j low high. rw (out.none j low high) (never (stays_by row t.inyear (day_at j))); few = out.few }
    where
      never : (b : Bool) → (if b then false else false) ≡ false
      never true = refl
      never false = refl

  pub skip-month : Without (month_on row) d n → Without (picks_on_by t row) d n
  unfolding picks_on_by picks_by stays_by month_on
  skip-month out = record { none = λ j low high. rw (out.none j low high); few = out.few }

-- ---- the next day to look at

pub between-one : (p : ℕ → Bool) (d : ℕ) → Between p d 1
between-one p d = record { none = λ j low high. absurd (omega arith); more = omega arith; few = omega arith }

pub without-between : (p : ℕ → Bool) (d n : ℕ) → Without p d n → (n ≡ 0 → ⊥) → Between p d n
without-between p d n w some-days = record { none = λ j low high. w.none j (omega arith) high; more = omega arith; few = w.few }

-- with the first day, which does not pass either
pub between-all : (p : ℕ → Bool) (d n : ℕ) → Between p d n → p d ≡ false → (j : ℕ) → d ≤ j → j < d + n → p j ≡ false
between-all p d n b here j low high =
    by (ltb d j) (λ e. b.none j (ltb-true d j e) high)
    (λ e. let same : d ≡ j = omega (arith, ltb-false d j e) in subst (λ (k : ℕ). p k ≡ false) same here)

pub between_more : (p : ℕ → Bool) (d n : ℕ) → Between p d n → p (d + n) ≡ false → n < 31 → Between p d (n + 1)
between_more p d n b out small =
    record {
      none = λ j low high.
          by (ltb j (d + n)) (λ e. b.none j low (ltb-true j (d + n) e))
          (λ e. let same : d + n ≡ j = omega (arith, ltb-false j (d + n) e) in subst (λ (k : ℕ). p k ≡ false) same out);
      more = omega arith;
      few = omega arith;
    }

-- a day that does not stay is not picked
pub not-staying : (t : Terms) (row : List Bool) (y : Day) (n : ℕ) → y ≡ day_at n → stays_by row t.inyear y ≡ false → picks_on_by t row n ≡ false
unfolding picks_on_by picks_by
not-staying t row y n is out = rw (ap (stays_by row t.inyear) (sym is) ∙ out)
