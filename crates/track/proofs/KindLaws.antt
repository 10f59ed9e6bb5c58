-- What a rule has in two years of one kind: the same days, one by one.
use Prim.Native.Nat.{ℕ, zero, suc, ◌+◌, ◌-◌, ◌/◌, ◌%◌, ◌<◌, ◌≤◌}
use mathlib.Core.Bool.{Bool, true, false, not, false≢true}
use mathlib.Core.List.{List}
use mathlib.Core.Path.{◌≡◌, refl, sym, ap, ◌∙◌}
use native.Mathlib.Omega.{arith}
use native.Mathlib.Nat.{mod-add-mod}
use lib.Dec.{eqb}
use Rattle.gregorian.specs.Days.{day_count, date_of, weekday_of}
use Rattle.gregorian.proofs.MonthLaws.{month-next, month-mono, year-is-months}
use Rattle.gregorian.proofs.DayLaws.{month-within}
use Rattle.gregorian.proofs.RoundTrips.{date-parts}
use Rattle.rule.specs.declared.Frequency.{Frequency}
use Rattle.rule.specs.declared.Frequency.TheVariants.{Daily, Weekly, Monthly, Yearly}
use Rattle.rule.specs.declared.Day.{Day}
use Rattle.rule.specs.Day.{on_date, day_at}
use Rattle.rule.specs.Lists.{count_in}
use Rattle.rule.specs.Period.{period_of, since_first, days_of}
use Rattle.rule.specs.Gives.{end_day}
use Rattle.rule.proofs.Bools.{by}
use Rattle.rule.proofs.DayLaws.{day-facts}
use Rattle.rule.proofs.PeriodLaws.{day-number}
use Rattle.matcher.specs.declared.Terms.{Terms}
use Rattle.matcher.specs.Inner.Flags.{named}
use Rattle.matcher.specs.Inner.Layout.{positions_at, positions_back}
use Rattle.matcher.specs.Inner.Walk.{stays_on_by, step_by, placed_by, picks_by, picks_on_by}
use Rattle.track.specs.Inner.Years.{NewYear, owns_places, phase_of}
use Rattle.track.proofs.YearDayLaws.{any_year, stays-alike, days-alike, year-known, year-at, year-whole, year-same}
use Rattle.track.proofs.NeighbourLaws.{stays-anywhere, around-alike}

-- ---- a month lies in its year

module _ (n : ℕ) (h : n < day_count) where
  month-begins : (day_at n).monthday - 1 ≤ (day_at n).yearday
  unfolding day_at on_date
  month-begins = omega arith

  month-ends : (day_at n).yearday - ((day_at n).monthday - 1) + (day_at n).monthdays ≤ (day_at n).yeardays
  unfolding day_at on_date
  month-ends =
      let t = date_of n in
      let p = date-parts n h in
      omega (arith, month-next t.year t.month, month-mono t.year (suc t.month) 13 (omega (arith, month-within t p)), year-is-months t.year)

-- ---- counts that agree

pub count-shift : (p : ℕ → Bool) (a b n : ℕ) → ((j : ℕ) → j < n → p (a + j) ≡ p (b + j)) → count_in p a n ≡ count_in p b n
unfolding count_in
count-shift p a b zero h = refl
count-shift p a b (suc n) h =
    let here-a : a + 0 ≡ a = omega arith in
    let here-b : b + 0 ≡ b = omega arith in
    let first : p a ≡ p b = sym (ap p here-a) ∙ (h 0 (omega arith) ∙ ap p here-b) in
    rw (
      first,
      count-shift p (suc a) (suc b) n (λ j less.
          let next-a : a + suc j ≡ suc a + j = omega arith in
          let next-b : b + suc j ≡ suc b + j = omega arith in
          sym (ap p next-a) ∙ (h (suc j) (omega arith) ∙ ap p next-b)),
    )

-- ---- a place among the days of a period

record PlacesAlike (f : Frequency) (w : ℕ) (row : List Bool) (in_year : Bool) (a b : Day) : Type 0 where
  since : since_first f w a ≡ since_first f w b
  whole : days_of f a ≡ days_of f b
  less : since_first f w a ≤ days_of f a
  days : (i : ℕ) → i < days_of f a → stays_on_by row in_year (a.number - since_first f w a + i) ≡ stays_on_by row in_year (b.number - since_first f w b + i)

placed_alike : (t : Terms) (row : List Bool) (a b : Day) → PlacesAlike t.frequency t.first row t.inyear a b → placed_by t row a ≡ placed_by t row b
unfolding placed_by
placed_alike t row a b p =
    let q = stays_on_by row t.inyear in
    let from-a = a.number - since_first t.frequency t.first a in
    let from-b = b.number - since_first t.frequency t.first b in
    let seen : count_in q from-a (since_first t.frequency t.first a) ≡ count_in q from-b (since_first t.frequency t.first b) =
    count-shift q from-a from-b (since_first t.frequency t.first a) (λ i less. p.days i (omega (arith, p.less))) ∙ ap (count_in q from-b) p.since in
    let total : count_in q from-a (days_of t.frequency a) ≡ count_in q from-b (days_of t.frequency b) =
    count-shift q from-a from-b (days_of t.frequency a) p.days ∙ ap (count_in q from-b) p.whole in
    ap (λ (k : ℕ). named row positions_at positions_back (k + 1) (count_in q from-a (days_of t.frequency a))) seen
    ∙ ap (λ (k : ℕ). named row positions_at positions_back (count_in q from-b (since_first t.frequency t.first b) + 1) k) total

-- ---- two years

-- the k-th days lie as many periods after the first
record Shifted (f : Frequency) (w : ℕ) (x y a b : Day) : Type 0 where
  by_periods : ℕ
  mine : period_of f w a ≡ period_of f w x + by_periods
  other : period_of f w b ≡ period_of f w y + by_periods

weekday-of : (n : ℕ) → (day_at n).weekday ≡ (n + 5) % 7
unfolding day_at on_date weekday_of
weekday-of n = refl

week-on : (n k w : ℕ) → w < 7 → (n + k + 12 - w) / 7 ≡ (n + 12 - w) / 7 + ((n + 12 - w) % 7 + k) / 7
week-on n k w h = omega arith

since-on : (n k w : ℕ) → w < 7 → (n + k + 12 - w) % 7 ≡ ((n + 12 - w) % 7 + k) % 7
since-on n k w h = omega arith

week-alike : (n m w : ℕ) → w < 7 → (n + 5) % 7 ≡ (m + 5) % 7 → (n + 12 - w) % 7 ≡ (m + 12 - w) % 7
week-alike n m w h e = omega arith

module _ (x y : Day) (new-x : NewYear x) (new-y : NewYear y) (low_x : 366 ≤ x.number) (low-y : 366 ≤ y.number)
    (high-x : x.number < end_day) (high-y : y.number < end_day) (weekday : x.weekday ≡ y.weekday) (yeardays : x.yeardays ≡ y.yeardays) where
  same-week : (w : ℕ) → w < 7 → (x.number + 12 - w) % 7 ≡ (y.number + 12 - w) % 7
  same-week w week =
      let of-x : x.weekday ≡ (x.number + 5) % 7 = ap (λ (z : Day). z.weekday) new-x.day ∙ weekday-of x.number in
      let of-y : y.weekday ≡ (y.number + 5) % 7 = ap (λ (z : Day). z.weekday) new-y.day ∙ weekday-of y.number in
      week-alike x.number y.number w week (sym of-x ∙ (weekday ∙ of-y))

  -- from any day of the year on
  stays-from : (row : List Bool) (in_year : Bool) (m n j : ℕ) → m ≡ x.number + j → n ≡ y.number + j → j < x.yeardays → stays_on_by row in_year m ≡ stays_on_by row in_year n
  unfolding stays_on_by
  stays-from row in_year m n j at-m at_n less =
      ap (stays_on_by row in_year) at-m
      ∙ (stays-alike row in_year (day_at (x.number + j)) (day_at (y.number + j)) (days-alike x y new-x new-y high-x high-y weekday yeardays j less)
      ∙ sym (ap (stays_on_by row in_year) at_n))

  -- and from the days around it
  stays-around : (row : List Bool) (m n j : ℕ) → m ≡ x.number - 6 + j → n ≡ y.number - 6 + j → j < x.yeardays + 12 → stays_on_by row false m ≡ stays_on_by row false n
  unfolding stays_on_by
  stays-around row m n j at-m at_n less =
      ap (stays_on_by row false) at-m
      ∙ (stays-anywhere row (day_at (x.number - 6 + j)) (day_at (y.number - 6 + j)) (around-alike x y new-x new-y low_x low-y high-x high-y weekday yeardays j less)
      ∙ sym (ap (stays_on_by row false) at_n))

  module _ (k : ℕ) (h : k < x.yeardays) where
    abbrev a : Day
    a = day_at (x.number + k)

    abbrev b : Day
    b = day_at (y.number + k)

    alike : any_year a ≡ any_year b
    alike = days-alike x y new-x new-y high-x high-y weekday yeardays k h

    shifted : (f : Frequency) (w : ℕ) → w < 7 → Shifted f w x y a b
    unfolding period_of
    shifted Daily w week =
        let at_a = day-number (x.number + k) in
        let at_b = day-number (y.number + k) in
        record { by_periods = k; mine = at_a; other = at_b }
    shifted Weekly w week =
        let at_a = day-number (x.number + k) in
        let at_b = day-number (y.number + k) in
        record {
          by_periods = ((x.number + 12 - w) % 7 + k) / 7;
          mine = ap (λ (n : ℕ). (n + 12 - w) / 7) at_a ∙ week-on x.number k w week;
          other = ap (λ (n : ℕ). (n + 12 - w) / 7) at_b
              ∙ (week-on y.number k w week ∙ ap (λ (r : ℕ). (y.number + 12 - w) / 7 + (r + k) / 7) (sym (same-week w week)));
        }
    shifted Monthly w week =
        let facts = day-facts (x.number + k) (year-known x new-x high-x k h) in
        let month = ap (λ (z : Day). z.month) alike in
        record {
          by_periods = a.month - 1;
          mine = omega (arith, year-same x new-x high-x k h, new-x.month, facts.month_low);
          other = omega (arith, year-same y new-y high-y k (omega arith), new-y.month, month, facts.month_low);
        }
    shifted Yearly w week =
        record {
          by_periods = 0;
          mine = omega (arith, year-same x new-x high-x k h);
          other = omega (arith, year-same y new-y high-y k (omega arith));
        }

    module _ (t : Terms) (week : t.first < 7) (begun-x : t.period ≤ period_of t.frequency t.first x) (begun-y : t.period ≤ period_of t.frequency t.first y)
        (phase : phase_of t x ≡ phase_of t y) where
      same_step : step_by t a ≡ step_by t b
      unfolding step_by phase_of
      same_step =
          let s = shifted t.frequency t.first week in
          let d = s.by_periods in
          let px = period_of t.frequency t.first x in
          let py = period_of t.frequency t.first y in
          let far-a : period_of t.frequency t.first a - t.period ≡ px - t.period + d = omega (arith, s.mine) in
          let far-b : period_of t.frequency t.first b - t.period ≡ py - t.period + d = omega (arith, s.other) in
          let same : (px - t.period + d) % t.interval ≡ (py - t.period + d) % t.interval =
          sym (mod-add-mod (px - t.period) t.interval d) ∙ (ap (λ (r : ℕ). (r + d) % t.interval) phase ∙ mod-add-mod (py - t.period) t.interval d) in
          ap (λ (r : ℕ). eqb r 0) (ap (λ (r : ℕ). r % t.interval) far-a ∙ (same ∙ sym (ap (λ (r : ℕ). r % t.interval) far-b)))

    -- ---- set positions

    places : (f : Frequency) (w : ℕ) (row : List Bool) (in_year : Bool) → w < 7 → owns_places f true in_year ≡ true → PlacesAlike f w row in_year a b
    unfolding since_first days_of owns_places
    places Daily w row in_year week own =
        let at_a = day-number (x.number + k) in
        let at_b = day-number (y.number + k) in
        record { since = refl; whole = refl; less = omega arith; days = λ i less. stays-from row in_year _ _ k (omega arith) (omega arith) h }
    places Weekly w row in_year week own = weeks in_year own
      where
        at_a : a.number ≡ x.number + k
        at_a = day-number (x.number + k)

        at_b : b.number ≡ y.number + k
        at_b = day-number (y.number + k)

        since : (a.number + 12 - w) % 7 ≡ (b.number + 12 - w) % 7
        since =
            ap (λ (n : ℕ). (n + 12 - w) % 7) at_a
            ∙ (since-on x.number k w week
            ∙ (ap (λ (r : ℕ). (r + k) % 7) (same-week w week)
            ∙ (sym (since-on y.number k w week) ∙ sym (ap (λ (n : ℕ). (n + 12 - w) % 7) at_b))))

        weeks : (in_year : Bool) → not in_year ≡ true → PlacesAlike Weekly w row in_year a b
        weeks true none = absurd (false≢true none)
        weeks false none =
            record {
              since = since;
              whole = refl;
              less = omega arith;
              days = λ i less. stays-around row _ _ (6 + k - (a.number + 12 - w) % 7 + i) (omega (arith, at_a)) (omega (arith, at_b, since)) (omega arith);
            }
    places Monthly w row in_year week own =
        let known = year-known x new-x high-x k h in
        let at_a = day-number (x.number + k) in
        let at_b = day-number (y.number + k) in
        let yearday = year-at x new-x high-x k h in
        let whole = year-whole x new-x high-x k h in
        let begins = month-begins (x.number + k) known in
        let ends = month-ends (x.number + k) known in
        let day = ap (λ (z : Day). z.monthday) alike in
        let facts = day-facts (x.number + k) known in
        record {
          since = ap (λ (n : ℕ). n - 1) day;
          whole = ap (λ (z : Day). z.monthdays) alike;
          less = omega (arith, facts.monthday_high);
          days = λ i less. stays-from row in_year _ _ (k - (a.monthday - 1) + i) (omega arith) (omega arith) (omega arith);
        }
    places Yearly w row in_year week own =
        let at_a = day-number (x.number + k) in
        let at_b = day-number (y.number + k) in
        let yearday = year-at x new-x high-x k h in
        let yearday-y = year-at y new-y high-y k (omega arith) in
        let whole = year-whole x new-x high-x k h in
        record {
          since = ap (λ (z : Day). z.yearday) alike;
          whole = ap (λ (z : Day). z.yeardays) alike;
          less = omega arith;
          days = λ i less. stays-from row in_year _ _ i (omega arith) (omega arith) (omega arith);
        }

    -- ---- what the rule picks

    pub picks-alike : (t : Terms) (row : List Bool) → t.first < 7 → t.period ≤ period_of t.frequency t.first x
        → t.period ≤ period_of t.frequency t.first y → phase_of t x ≡ phase_of t y → owns_places t.frequency t.placed t.inyear ≡ true
        → picks_on_by t row (x.number + k) ≡ picks_on_by t row (y.number + k)
    unfolding picks_on_by picks_by
    picks-alike t row week begun-x begun-y phase own =
        let stay = stays-alike row t.inyear a b alike in
        let step = same_step t week begun-x begun-y phase in
        by t.placed
        (λ e.
        let place = placed_alike t row a b (places t.frequency t.first row t.inyear week (sym (ap (λ (p : Bool). owns_places t.frequency p t.inyear) e) ∙ own)) in
        rw (stay, step, place))
        (λ e. rw (stay, step, e))
