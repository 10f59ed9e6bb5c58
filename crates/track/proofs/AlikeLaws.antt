-- What a rule has of a month that is set and in step depends only on the month's kind.
use Rattle.std.specs.Prelude.{if◌then◌else◌}
use Prim.Native.Nat.{ℕ, zero, suc, ◌+◌, ◌-◌, ◌%◌, ◌<◌, ◌≤◌}
use mathlib.Core.Bool.{Bool, true, false, false≢true}
use mathlib.Core.List.{List, [], ◌∷◌}
use mathlib.Core.Path.{◌≡◌, refl, sym, ap, ◌∙◌, subst}
use native.Mathlib.Omega.{arith}
use lib.Dec.{T, leb, eqb, leb→le}
use Rattle.std.specs.List.{list_all}
use Rattle.std.proofs.lemmas.List.{places}
use Rattle.std.proofs.lemmas.List.Folds.{list_all_at}
use lib.ListN.{length, get_or, set, take, drop}
use lib.Seq.{set-get_or}
use borrow.Author.Tests.{eqb-true, eqb-false}
use Rattle.gregorian.specs.Year.{is_leap}
use Rattle.gregorian.specs.Month.{month_length, length_in}
use Rattle.gregorian.specs.Days.{day_count}
use Rattle.gregorian.proofs.Computed.{all_below, all-below}
use Rattle.rule.specs.declared.Frequency.{Frequency}
use Rattle.rule.specs.declared.Frequency.TheVariants.{Daily, Weekly, Monthly, Yearly}
use Rattle.rule.specs.declared.Day.{Day}
use Rattle.rule.specs.Day.{on_date, day_at}
use Rattle.rule.specs.Lists.{count_in}
use Rattle.rule.specs.Period.{period_of, since_first, days_of}
use Rattle.rule.specs.Inner.Bounds.{InCalendar}
use Rattle.rule.proofs.Bools.{by}
use Rattle.matcher.specs.declared.Terms.{Terms}
use Rattle.matcher.specs.Inner.Flags.{named, nth_by, month_by, date_by, day_by, stays_by}
use Rattle.matcher.specs.Inner.Layout.{row_size, dates_at, dates_back, weekdays_at, positions_at, positions_back}
use Rattle.matcher.specs.Inner.Walk.{Asked, stays_on_by, step_by, placed_by, picks_by, picks_on_by}
use Rattle.matcher.proofs.WalkLaws.{step-each, in-calendar}
use Rattle.months.specs.Inner.Kinds.{Kind, stays_in, chosen_in, picks_in}
use Rattle.months.specs.Inner.Rows.{answer_at, KeptAt}
use Rattle.track.specs.Inner.Runs.{marked}
use Rattle.track.specs.Inner.Skips.{to_month_end}
use Rattle.track.specs.Inner.Plain.{InMonth}
use Rattle.track.specs.Inner.Alike.{is_whole, WeekdaysSet, Alike, first_weekday}
use Rattle.track.proofs.RunLaws.{MarkAt, mark-yes, mark-no, marked-none, marked-shift}
use Rattle.track.proofs.SkipLaws.{later, in-same-month, month-reaches}
use Rattle.track.proofs.LeapLaws.{first_of, first-of-month, month-not-early}

-- ---- every weekday is set

all-set : (l : List Bool) → ((k : ℕ) → k < length l → get_or l k false ≡ true) → list_all (λ b. b) l ≡ true
all-set [] h = refl
all-set (b ∷ l) h = rw (h 0 (omega arith), all-set l (λ k less. h (suc k) (omega arith)))

-- a part of a list
part-length : (l : List Bool) (a n : ℕ) → a + n ≤ length l → length (take n (drop a l)) ≡ n
part-length l a n room = grind (arith, places)

part-at : (l : List Bool) (a n k : ℕ) → k < n → get_or (take n (drop a l)) k false ≡ get_or l (a + k) false
part-at l a n k h = grind (arith, places)

module _ (row : List Bool) (size : length row ≡ row_size) (r : Bool) (is : r ≡ list_all (λ b. b) (take 7 (drop weekdays_at row))) where
  seven : length (take 7 (drop weekdays_at row)) ≡ 7
  seven = part-length row weekdays_at 7 (omega arith)

  weekday-at : (k : ℕ) → k < 7 → get_or (take 7 (drop weekdays_at row)) k false ≡ get_or row (weekdays_at + k) false
  weekday-at k h = part-at row weekdays_at 7 k h

  pub weekdays-said : r ≡ true → WeekdaysSet row 7
  weekdays-said e =
      record {
        each = λ k h.
            by (get_or row (weekdays_at + k) false) (λ f. f)
            (λ f. absurd (false≢true (sym (is ∙ list_all_at (λ b. b) (take 7 (drop weekdays_at row)) k false (omega (arith, seven)) (weekday-at k h ∙ f)) ∙ e)));
      }

  pub weekdays-all : WeekdaysSet row 7 → r ≡ true
  weekdays-all w = is ∙ all-set (take 7 (drop weekdays_at row)) (λ k h. let less : k < 7 = omega (arith, seven) in weekday-at k less ∙ w.each k less)

-- ---- counting and marking by other numbers

count-shift : (p q : ℕ → Bool) (a b n : ℕ) → ((i : ℕ) → i < n → p (a + i) ≡ q (b + i)) → count_in p a n ≡ count_in q b n
unfolding count_in
count-shift p q a b zero h = refl
count-shift p q a b (suc n) h =
    let here : p a ≡ q b = ap p (omega arith) ∙ (h 0 (omega arith) ∙ ap q (omega arith)) in
    rw (
      here,
      count-shift p q (suc a) (suc b) n (λ i less. ap p (omega arith) ∙ (h (suc i) (omega arith) ∙ ap q (omega arith))),
    )

-- a hit that gets its answer or stays
mark-either : (p : ℕ → Bool) (value : Bool) (first : ℕ) (before hits : List Bool) (i : ℕ) → MarkAt p value first before hits i → i < length hits
    → (b : Bool) → b ≡ (if p (first + i) then value else get_or hits i false) → MarkAt p value first before (set hits i b) (i + 1)
mark-either p value first before hits i m more b is =
    by (p (first + i))
    (λ e.
    let here : value ≡ b = sym (is ∙ ap (λ (c : Bool). if c then value else get_or hits i false) e) in
    subst (λ (c : Bool). MarkAt p value first before (set hits i c) (i + 1)) here (mark-yes p value first before hits i m more e))
    (λ e.
    let here : get_or hits i false ≡ b = sym (is ∙ ap (λ (c : Bool). if c then value else get_or hits i false) e) in
    subst (λ (l : List Bool). MarkAt p value first before l (i + 1)) (sym (set-get_or hits i false) ∙ ap (set hits i) here)
    (mark-no p value first before hits i m more e))

pub lay-one : (rows : List Bool) (at : ℕ) (value : Bool) (before hits : List Bool) (i : ℕ) → MarkAt (answer_at rows at) value 0 before hits i → i < length hits
    → (b : Bool) → b ≡ (if get_or rows (at + i) false then value else get_or hits i false) → MarkAt (answer_at rows at) value 0 before (set hits i b) (i + 1)
unfolding answer_at
lay-one rows at value before hits i m more b is =
    let there : at + i ≡ at + (0 + i) = omega arith in
    mark-either (answer_at rows at) value 0 before hits i m more b (is ∙ ap (λ (n : ℕ). if get_or rows n false then value else get_or hits i false) there)

-- ---- the days of a month

period-same : (f : Frequency) (w : ℕ) (x y : Day) → is_whole f ≡ true → y.year ≡ x.year → y.month ≡ x.month → period_of f w y ≡ period_of f w x
unfolding is_whole period_of
period-same Daily w x y e year month = absurd (false≢true e)
period-same Weekly w x y e year month = absurd (false≢true e)
period-same Monthly w x y e year month = omega arith
period-same Yearly w x y e year month = year

-- the place of a day among those of its period that stay
placed_at : (t : Terms) (row : List Bool) (y : Day) (before first n : ℕ) → since_first t.frequency t.first y ≡ before → y.number - before ≡ first
    → days_of t.frequency y ≡ n
    → placed_by t row y ≡ named row positions_at positions_back (count_in (stays_on_by row t.inyear) first before + 1) (count_in (stays_on_by row t.inyear) first n)
unfolding placed_by
placed_at t row y before first n e f g = rw (e, f, g)

-- every month has four weeks
month-least : (y m : ℕ) → 1 ≤ m → m ≤ 12 → 28 ≤ month_length y m
unfolding month_length length_in
month-least y m low high = leb→le 28 (month_length y m) (of (is_leap y) m (omega arith) low)
  where
    test : Bool → ℕ → Bool
    test leap m = leb 28 (length_in leap (suc m))

    tested : (leap : Bool) → T (all_below (test leap) 12)
    tested true = tt
    tested false = tt

    of : (leap : Bool) (m : ℕ) → m < 13 → 1 ≤ m → T (leb 28 (length_in leap m))
    of leap zero h k = absurd (omega arith)
    of leap (suc m) h k = all-below (test leap) 12 (tested leap) m (omega arith)

month-length-of : (n : ℕ) → (day_at n).monthdays ≡ month_length (day_at n).year (day_at n).month
unfolding day_at on_date
month-length-of n = refl

pub month-kind : (x : Day) → x ≡ day_at x.number → x.number < day_count → Kind (first_weekday x) x.monthdays
month-kind x is h =
    let facts = in-calendar x x.number is h in
    let whole : x.monthdays ≡ month_length x.year x.month =
    ap (λ (d : Day). d.monthdays) is ∙ (month-length-of x.number ∙ sym (ap (λ (d : Day). month_length d.year d.month) is)) in
    record {
      week = omega arith;
      low = omega (arith, whole, month-least x.year x.month facts.month_low facts.month_high);
      high = facts.monthdays;
    }

module _ (t : Terms) (row : List Bool) (like : Alike t row) where
  -- its place in the year is asked of no weekday
  year-plain : (x : Day) → x.weekday < 7 → day_by row t.inyear x ≡ day_by row false x
  unfolding day_by
  year-plain x h = go t.inyear refl
    where
      go : (b : Bool) → t.inyear ≡ b
          → (if get_or row (weekdays_at + x.weekday) false then true
          else if b then nth_by row x.weekday x.yearday x.yeardays
          else nth_by row x.weekday (x.monthday - 1) x.monthdays)
          ≡ (if get_or row (weekdays_at + x.weekday) false then true else nth_by row x.weekday (x.monthday - 1) x.monthdays)
      go true e = rw ((like.weekdays e).each x.weekday h)
      go false e = refl

  -- a month is in step as a whole
  step_same : (x y : Day) → y.year ≡ x.year → y.month ≡ x.month → step_by t y ≡ step_by t x
  unfolding step_by
  step_same x y year month =
      by (eqb t.interval 1)
      (λ e. sym (step-each t y (eqb-true t.interval 1 e)) ∙ step-each t x (eqb-true t.interval 1 e))
      (λ e.
      ap (λ (p : ℕ). eqb ((p - t.period) % t.interval) 0)
      (period-same t.frequency t.first x y (like.steps (eqb-false t.interval 1 e)) year month))

  module _ (x : Day) (a : Asked t (length row) x) where
    day-later : (j : ℕ) → j < to_month_end x → day_at (x.number + j) ≡ later x j
    day-later j h = let far = month-reaches x a.day a.high j h in sym (in-same-month x a.day j far.0 far.1)

    -- a month that is not set, or out of step, has none
    pub unset-none : month_by row x ≡ false → (j : ℕ) → j < to_month_end x → picks_on_by t row (x.number + j) ≡ false
    unfolding picks_on_by picks_by stays_by month_by
    unset-none e j h = rw (day-later j h, e)

    pub out_none : step_by t x ≡ false → (j : ℕ) → j < to_month_end x → picks_on_by t row (x.number + j) ≡ false
    unfolding picks_on_by picks_by
    out_none e j h = rw (day-later j h, step_same x (later x j) refl refl ∙ e) (never (stays_by row t.inyear (later x j)))
      where
        never : (b : Bool) → (if b then false else false) ≡ false
        never true = refl
        never false = refl

    pub none-marked : (hits : List Bool) (value : Bool) → InMonth x (length hits) → ((j : ℕ) → j < to_month_end x → picks_on_by t row (x.number + j) ≡ false)
        → hits ≡ marked (picks_on_by t row) value x.number hits
    none-marked hits value m none =
        sym (marked-none (picks_on_by t row) value x.number hits
        (λ d low high.
        let there : x.number + (d - x.number) ≡ d = omega arith in
        subst (λ (e : ℕ). picks_on_by t row e ≡ false) there (none (d - x.number) (omega (arith, m.within)))))

    pub unset-marked : (hits : List Bool) (value : Bool) → InMonth x (length hits) → month_by row x ≡ false → hits ≡ marked (picks_on_by t row) value x.number hits
    unset-marked hits value m e = none-marked hits value m (unset-none e)

    pub out-marked : (hits : List Bool) (value : Bool) → InMonth x (length hits) → step_by t x ≡ false → hits ≡ marked (picks_on_by t row) value x.number hits
    out-marked hits value m e = none-marked hits value m (out_none e)

    module _ (is_set : month_by row x ≡ true) (in_step : step_by t x ≡ true) (monthly : t.placed ≡ true → t.frequency ≡ Monthly) where
      known : x.number < day_count
      known = omega (arith, a.high)

      facts : InCalendar x
      facts = in-calendar x x.number a.day known

      early : x.monthday - 1 ≤ x.number
      early = month-not-early x a.day known

      stay : ℕ → Bool
      stay k = stays_in row (first_weekday x) x.monthdays k

      module _ (k : ℕ) (h : k < x.monthdays) where
        there : later (first_of x) k ≡ day_at ((first_of x).number + k)
        there = in-same-month (first_of x) (first-of-month x a.day known) k (omega (arith, a.high, facts.monthdays)) (omega arith)

        date-kind : date_by row (later (first_of x) k) ≡ named row dates_at dates_back (k + 1) x.monthdays
        unfolding date_by
        date-kind = ap (λ (n : ℕ). named row dates_at dates_back n x.monthdays) (omega arith)

        day-kind : day_by row t.inyear (later (first_of x) k)
            ≡ (if get_or row (weekdays_at + (first_weekday x + k) % 7) false then true else nth_by row ((first_weekday x + k) % 7) k x.monthdays)
        unfolding day_by
        day-kind =
            year-plain (later (first_of x) k) (omega arith)
            ∙ ap
            (λ (n : ℕ). if get_or row (weekdays_at + (first_weekday x + k) % 7) false then true else nth_by row ((first_weekday x + k) % 7) n x.monthdays)
            (omega arith)

        stays-kind : stays_by row t.inyear (later (first_of x) k) ≡ stay k
        unfolding stays_by month_by stay stays_in
        stays-kind = rw (is_set, date-kind, day-kind)

        stays-there : stays_on_by row t.inyear ((first_of x).number + k) ≡ stay k
        unfolding stays_on_by
        stays-there = ap (stays_by row t.inyear) (sym there) ∙ stays-kind

      counts : (m : ℕ) → m ≤ x.monthdays → count_in (stays_on_by row t.inyear) (first_of x).number m ≡ count_in stay 0 m
      counts m h =
          count-shift (stays_on_by row t.inyear) stay (first_of x).number 0 m (λ i less. stays-there i (omega arith) ∙ ap stay (omega arith))

      module _ (k : ℕ) (h : k < x.monthdays) where
        place-kind : t.frequency ≡ Monthly → placed_by t row (later (first_of x) k) ≡ named row positions_at positions_back (count_in stay 0 k + 1) (count_in stay 0 x.monthdays)
        unfolding since_first days_of
        place-kind e =
            placed_at t row (later (first_of x) k) k (first_of x).number x.monthdays (rw e (omega arith)) (omega arith) (rw e)
            ∙ rw (counts k (omega arith), counts x.monthdays (omega arith))

        picks-later : picks_by t row (later (first_of x) k) ≡ picks_in t.placed row (first_weekday x) x.monthdays k
        unfolding picks_by picks_in chosen_in stay
        picks-later =
            rw (stays-kind k h, step_same x (later (first_of x) k) refl refl ∙ in_step)
            (go t.placed refl)
          where
            plain : (b : Bool) → (if b then true else false) ≡ b
            plain true = refl
            plain false = refl

            go : (p : Bool) → t.placed ≡ p
                → (if stay k then (if p then placed_by t row (later (first_of x) k) else true) else false)
                ≡ (if p then (if stay k then named row positions_at positions_back (count_in stay 0 k + 1) (count_in stay 0 x.monthdays) else false) else stay k)
            go true e = ap (λ (b : Bool). if stay k then b else false) (place-kind (monthly e))
            go false e = plain (stay k)

        pub picks-kind : picks_on_by t row ((first_of x).number + k) ≡ picks_in t.placed row (first_weekday x) x.monthdays k
        unfolding picks_on_by
        picks-kind = ap (picks_by t row) (sym (there k h)) ∙ picks-later

      -- the days of the month from x on, laid from its row
      pub kind-marked : (rows : List Bool) (at : ℕ) → KeptAt t.placed row (first_weekday x) x.monthdays rows at → (hits after : List Bool) (value : Bool)
          → InMonth x (length hits) → after ≡ marked (answer_at rows (at + (x.monthday - 1))) value 0 hits
          → after ≡ marked (picks_on_by t row) value x.number hits
      unfolding to_month_end answer_at
      kind-marked rows at kept hits after value m is =
          is
          ∙ marked-shift (answer_at rows (at + (x.monthday - 1))) (picks_on_by t row) value 0 x.number hits
          (λ i less.
          let k = x.monthday - 1 + i in
          let h : x.monthday - 1 + i < x.monthdays = omega (arith, m.within, facts.monthday_low) in
          ap (λ (n : ℕ). get_or rows n false) (omega arith)
          ∙ (kept.row (x.monthday - 1 + i) h
          ∙ (sym (picks-kind (x.monthday - 1 + i) h)
          ∙ ap (picks_on_by t row) (omega (arith, early)))))
