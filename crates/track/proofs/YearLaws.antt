-- Years of one kind have as many of a rule's days, and what is kept of them is right.
use Rattle.std.specs.Prelude.{if◌then◌else◌}
use Prim.Native.Nat.{ℕ, ◌+◌, ◌-◌, ◌/◌, ◌<◌, ◌≤◌}
use mathlib.Core.Bool.{Bool, true, false, false≢true}
use mathlib.Core.List.{List}
use mathlib.Core.Option.{none}
use mathlib.Core.Path.{◌≡◌, refl, sym, ap, ◌∙◌}
use native.Mathlib.Omega.{arith}
use native.Mathlib.Nat.{mod-lt, zero-mod}
use lib.Dec.{eqb, ltb}
use lib.ListN.{length, get_or, set, replicate, length-set, length-replicate, get_or-replicate, get_or-eq_default}
use lib.Seq.{get_or-set_same, get_or-set_other}
use borrow.Author.Tests.{eqb-true, eqb-false, ltb-true, ltb-false, leb-true, ne_eqb}
use Rattle.gregorian.specs.Days.{day_count}
use Rattle.gregorian.specs.Year.{first_of_year}
use Rattle.gregorian.proofs.YearLaws.{first-mono, year-least}
use Rattle.rule.specs.declared.Frequency.{Frequency}
use Rattle.rule.specs.declared.Frequency.TheVariants.{Daily, Weekly, Monthly, Yearly}
use Rattle.rule.specs.declared.Day.{Day}
use Rattle.rule.specs.declared.End.{End}
use Rattle.rule.specs.declared.End.TheVariants.{Count}
use Rattle.rule.specs.Day.{day_at}
use Rattle.rule.specs.Lists.{count_in, not_after}
use Rattle.rule.specs.Period.{period_of}
use Rattle.rule.specs.Inner.Read.{until_from}
use Rattle.rule.specs.Gives.{end_day}
use Rattle.rule.specs.Inner.Bounds.{InCalendar}
use Rattle.rule.proofs.Bools.{by}
use Rattle.rule.proofs.Counting.{count-nothing, count_most}
use Rattle.rule.proofs.DayLaws.{day-facts, year-start-of}
use Rattle.rule.proofs.PeriodLaws.{day-number}
use Rattle.matcher.specs.declared.Terms.{Terms}
use Rattle.matcher.specs.Inner.Walk.{step_by, picks_on_by}
use Rattle.matcher.specs.Inner.Member.{is_first, falls_on_by}
use Rattle.matcher.proofs.WalkLaws.{in-calendar}
use Rattle.track.specs.declared.Rest.{Rest}
use Rattle.track.specs.Inner.Ahead.{Resting}
use Rattle.track.specs.Inner.Years.{is_alike, is_far, NewYear, phase_of, idle_in, is_idle, slot_of, YearBegins, Alike, Spanning, YearAsked, Kept}
use Rattle.track.specs.Inner.Skips.{Without, step_at, step_on}
use Rattle.track.proofs.LastLaws.{falls-by}
use Rattle.track.proofs.AheadLaws.{falls-without}
use Rattle.track.proofs.SkipLaws.{periods-without, skip-out-of-step}
use Rattle.track.proofs.YearDayLaws.{year-same}
use Rattle.track.proofs.NeighbourLaws.{year-ends}
use Rattle.track.proofs.SpanLaws.{year-length-of}
use Rattle.track.proofs.KindLaws.{count-shift, picks-alike}

-- ---- which rules

-- a rule with a count has no `until`
pub counted-endless : (n : ℕ) → until_from (Count n) ≡ none
unfolding until_from
counted-endless n = refl

pub alike-terms : (t : Terms) → is_alike t ≡ true → Alike t
unfolding is_alike
alike-terms t e =
    by (eqb t.interval 0) (λ f. absurd (false≢true (rw f at e)))
    (λ f.
    by (ltb 512 t.interval) (λ g. absurd (false≢true (rw (f, g) at e)))
    (λ g. record { some_periods = omega (arith, eqb-false t.interval 0 f); few = ltb-false 512 t.interval g; own = rw (f, g) at e }))

-- ---- a new year after a day lies in a later year, and so in no earlier period

module _ (n : ℕ) (x : Day) (new : NewYear x) (after : n < x.number) (high : x.number < day_count) where
  facts : InCalendar x
  facts = in-calendar x x.number new.day high

  later-year : (day_at n).year < x.year
  later-year =
      let start : first_of_year (x.year - 1600) ≡ x.number =
      sym (omega (arith, new.yearday)) ∙ (ap (λ (d : Day). first_of_year (d.year - 1600) + d.yearday) new.day ∙ year-start-of x.number high) in
      let here = year-start-of n (omega arith) in
      by (ltb (day_at n).year x.year) (λ e. ltb-true (day_at n).year x.year e)
      (λ e. absurd (omega (arith, first-mono (x.year - 1600) ((day_at n).year - 1600) (omega (arith, ltb-false (day_at n).year x.year e)))))

  pub later-period : (f : Frequency) (w : ℕ) → w < 7 → period_of f w (day_at n) ≤ period_of f w x
  unfolding period_of
  later-period Daily w week = omega (arith, day-number n)
  later-period Weekly w week = let at = day-number n in omega arith
  later-period Monthly w week = omega (arith, later-year, (day-facts n (omega arith)).month_high, facts.month_low)
  later-period Yearly w week = omega (arith, later-year)

-- ---- a year that is asked about

pub far-enough : (placed : Bool) (left : ℕ) → is_far placed left ≡ true → 366 ≤ left
unfolding is_far
far-enough true left e = omega (arith, leb-true 12000 left e)
far-enough false left e = omega (arith, leb-true 100000 left e)

pub year-asked : (end : End) (t : Terms) (row start : ℕ) (a : Rest) → Resting t row start a → until_from end ≡ none
    → (x : Day) → NewYear x → start / 86400 < x.number → x.number < end_day → YearAsked end t row start x
year-asked end t row start a r endless x new after high =
    record {
      row_length = r.row_length;
      begins =
          record {
            new = new;
            week = r.week;
            begun = omega (arith, r.begun, later-period (start / 86400) x new after (omega arith) t.frequency t.first r.week);
            low = omega (arith, r.low);
            high = high;
          };
      after = after;
      endless = endless;
    }

-- ---- the kind of a year by its slot

module _ (t : Terms) (x : Day) (begins : YearBegins t x) where
  parts : InCalendar x
  parts = let high = begins.high in in-calendar x x.number begins.new.day (omega arith)

  pub year-long : 365 ≤ x.yeardays
  year-long =
      let is = begins.new.day in
      let whole = ap (λ (d : Day). d.yeardays) is ∙ year-length-of x.number in
      omega (arith, year-least (day_at x.number).year)

  pub year-short : x.yeardays ≤ 366
  year-short = parts.yeardays

module _ (t : Terms) (alike : Alike t) where
  phase-few : (x : Day) → phase_of t x < 512
  unfolding phase_of
  phase-few x = omega (arith, mod-lt (period_of t.frequency t.first x - t.period) alike.some_periods, alike.few)

  module _ (x : Day) (begins : YearBegins t x) where
    pub slot-below : slot_of t x < 7168
    unfolding slot_of
    slot-below = omega (arith, phase-few x, year-short t x begins, (parts t x begins).weekday)

  module _ (x y : Day) (begins-x : YearBegins t x) (begins-y : YearBegins t y) (same : slot_of t x ≡ slot_of t y) where
    same-yeardays : x.yeardays ≡ y.yeardays
    unfolding slot_of
    same-yeardays =
        omega (arith, same, phase-few x, phase-few y, year-long t x begins-x, year-short t x begins-x, (parts t x begins-x).weekday, year-long t y begins-y, year-short t y begins-y, (parts t y begins-y).weekday)

    same-weekday : x.weekday ≡ y.weekday
    unfolding slot_of
    same-weekday = omega (arith, same, same-yeardays, phase-few x, phase-few y)

    same-phase : phase_of t x ≡ phase_of t y
    unfolding slot_of
    same-phase = omega (arith, same, same-yeardays, same-weekday)

    module _ (excluded : Bool) (end : End) (row : List Bool) (start : ℕ) (endless : until_from end ≡ none) (after-x : start / 86400 < x.number) (after-y : start / 86400 < y.number) where
      -- after the start a rule that only its count ends has the days that it picks
      falls-picks : (n : ℕ) → start / 86400 < n → falls_on_by excluded end t row start n ≡ picks_on_by t row n
      unfolding is_first not_after
      falls-picks n after =
          sym (falls-by excluded end t row start n) ∙ rw (endless, ne_eqb n (start / 86400) (omega arith)) (go excluded (picks_on_by t row n))
        where
          go : (b p : Bool) → (if (if b then false else false) then true else if p then true else false) ≡ p
          go true true = refl
          go true false = refl
          go false true = refl
          go false false = refl

      pub year-counts : count_in (falls_on_by excluded end t row start) x.number x.yeardays ≡ count_in (falls_on_by excluded end t row start) y.number y.yeardays
      year-counts =
          count-shift (falls_on_by excluded end t row start) x.number y.number x.yeardays
          (λ k h.
          falls-picks (x.number + k) (omega arith)
          ∙ (picks-alike x y begins-x.new begins-y.new begins-x.low begins-y.low begins-x.high begins-y.high same-weekday same-yeardays k h t row begins-x.week begins-x.begun begins-y.begun same-phase alike.own
          ∙ sym (falls-picks (y.number + k) (omega arith))))
          ∙ ap (count_in (falls_on_by excluded end t row start) y.number) same-yeardays

pub year-spanning : (end : End) (t : Terms) (row start : ℕ) (x : Day) → YearAsked end t row start x → Spanning t row start x x.yeardays
year-spanning end t row start x y =
    let b = y.begins in
    record {
      row_length = y.row_length;
      week = b.week;
      day = b.new.day;
      low = b.low;
      known = year-ends x b.new b.low b.high;
      after = omega (arith, y.after);
      starts = omega (arith, y.after, b.high);
    }

-- ---- years out of step

module _ (t : Terms) (x : Day) (begins : YearBegins t x) (idle : is_idle t x ≡ true) where
  idle-facts : (f : Frequency) (interval phase : ℕ) → idle_in f interval phase ≡ true → (f ≡ Monthly) × ((phase ≡ 0 → ⊥) × (12 ≤ interval - phase))
  unfolding idle_in
  idle-facts Daily interval phase e = absurd (false≢true e)
  idle-facts Weekly interval phase e = absurd (false≢true e)
  idle-facts Monthly interval phase e =
      by (eqb phase 0) (λ f. absurd (false≢true (rw f at e)))
      (λ f. (refl, (eqb-false phase 0 f, leb-true 12 (interval - phase) (rw f at e))))
  idle-facts Yearly interval phase e = absurd (false≢true e)

  wide-facts : (12 ≤ t.interval) × (idle_in t.frequency t.interval (phase_of t x) ≡ true)
  unfolding is_idle
  wide-facts =
      by (ltb t.interval 12) (λ e. absurd (false≢true (rw e at idle))) (λ e. (ltb-false t.interval 12 e, rw e at idle))

  monthly : t.frequency ≡ Monthly
  monthly = (idle-facts t.frequency t.interval (phase_of t x) wide-facts.1).0

  out-of-step : Without (step_at t) (period_of t.frequency t.first x) 12
  unfolding phase_of
  out-of-step =
      let facts = (idle-facts t.frequency t.interval (phase_of t x) wide-facts.1).1 in
      let begun = begins.begun in
      let after : t.period < period_of t.frequency t.first x =
      by (ltb t.period (period_of t.frequency t.first x)) (λ e. ltb-true t.period (period_of t.frequency t.first x) e)
      (λ e.
      let none-far : period_of t.frequency t.first x - t.period ≡ 0 = omega (arith, ltb-false t.period (period_of t.frequency t.first x) e) in
      absurd (facts.0 (rw none-far (zero-mod t.interval))))
      in
      periods-without t (period_of t.frequency t.first x) (omega (arith, wide-facts.0)) after facts.0 12 facts.1 (omega arith)

  month-of : (j : ℕ) → x.number ≤ j → j < x.number + x.yeardays
      → (period_of t.frequency t.first x ≤ period_of t.frequency t.first (day_at j)) × (period_of t.frequency t.first (day_at j) < period_of t.frequency t.first x + 12)
  unfolding period_of
  month-of j low high =
      let top = begins.high in
      let there : x.number + (j - x.number) ≡ j = omega arith in
      let year : (day_at j).year ≡ x.year =
      sym (ap (λ (n : ℕ). (day_at n).year) there) ∙ year-same x begins.new begins.high (j - x.number) (omega arith) in
      let facts = day-facts j (omega (arith, year-short t x begins)) in
      rw monthly (omega (arith, facts.month_low, begins.new.month), omega (arith, facts.month_high, begins.new.month))

  idle-without : Without (step_on t) x.number x.yeardays
  unfolding step_on step_by step_at
  idle-without =
      record {
        none = λ j low high.
            let there = month-of j low high in
            out-of-step.none (period_of t.frequency t.first (day_at j)) there.0 there.1;
        few = omega (arith, year-short t x begins);
      }

  pub idle-counts : (excluded : Bool) (end : End) (row : List Bool) (start : ℕ) → start / 86400 < x.number
      → 0 ≡ count_in (falls_on_by excluded end t row start) x.number x.yeardays
  idle-counts excluded end row start after =
      sym (count-nothing (falls_on_by excluded end t row start) x.number x.yeardays
      (falls-without excluded end t row start x.number x.yeardays
      (record { out = skip-out-of-step t row x.number x.yeardays idle-without; after = λ some-days. after })))

-- ---- what is kept

never-kept : (n i : ℕ) → ◌≡◌ {A = ℕ} (get_or (replicate n 0) i 0) 0
never-kept n i =
    by (ltb i n) (λ e. get_or-replicate {A = ℕ} n i 0 0 (ltb-true i n e))
    (λ e. get_or-eq_default {A = ℕ} (replicate n 0) 0 (omega (arith, ltb-false i n e, length-replicate {A = ℕ} n 0)))

pub kept-none : (p : ℕ → Bool) (t : Terms) (first n : ℕ) → n ≡ 7168 → Kept p t first (replicate n 0)
kept-none p t first n e =
    record {
      size = length-replicate {A = ℕ} n 0 ∙ e;
      days = λ x begins after some-days. absurd (omega (arith, never-kept n (slot_of t x)));
    }

pub kept-said : (p : ℕ → Bool) (t : Terms) (first : ℕ) (known : List ℕ) → Kept p t first known → (x : Day) → YearBegins t x → first < x.number
    → (slot : ℕ) → slot ≡ slot_of t x → 0 < get_or known slot 0 → get_or known slot 0 - 1 ≡ count_in p x.number x.yeardays
kept-said p t first known kept x begins after slot at some-days =
    let here : get_or known slot 0 ≡ get_or known (slot_of t x) 0 = ap (λ (s : ℕ). get_or known s 0) at in
    omega (arith, kept.days x begins after (omega arith))

pub counted-few : (p : ℕ → Bool) (a n found : ℕ) → found ≡ count_in p a n → found ≤ n
counted-few p a n found is = omega (arith, count_most p a n)

module _ (excluded : Bool) (end : End) (t : Terms) (row : List Bool) (start : ℕ) (alike : Alike t) (endless : until_from end ≡ none) where
  pub kept_more : (known : List ℕ) → Kept (falls_on_by excluded end t row start) t (start / 86400) known
      → (x : Day) → YearBegins t x → start / 86400 < x.number → (slot found : ℕ) → slot ≡ slot_of t x
      → found ≡ count_in (falls_on_by excluded end t row start) x.number x.yeardays
      → Kept (falls_on_by excluded end t row start) t (start / 86400) (set known slot (found + 1))
  kept_more known kept x begins after slot found at is =
      record {
        size = length-set known slot (found + 1) ∙ kept.size;
        days = λ y begins-y after-y some-days.
            by (eqb (slot_of t y) slot)
            (λ e.
            let same : slot_of t y ≡ slot = eqb-true (slot_of t y) slot e in
            let within : slot < length known = omega (arith, slot-below t alike x begins, kept.size) in
            rw (same, get_or-set_same known slot (found + 1) 0 within, is, year-counts t alike x y begins begins-y (sym at ∙ sym same) excluded end row start endless after after-y))
            (λ e.
            let other = get_or-set_other known slot (slot_of t y) (found + 1) 0 (eqb-false (slot_of t y) slot e) in
            other ∙ kept.days y begins-y after-y (omega (arith, other)));
      }
