-- The period of the next day, and what is carried from one day to the next.
use Rattle.std.specs.Prelude.{if◌then◌else◌}
use Prim.Native.Nat.{ℕ, suc, ◌+◌, ◌-◌, ◌<◌, ◌≤◌}
use mathlib.Core.Bool.{Bool, true, false, false≢true}
use mathlib.Core.List.{List}
use mathlib.Core.Path.{◌≡◌, refl, sym, ap, ◌∙◌}
use native.Mathlib.Omega.{arith}
use lib.Dec.{ltb}
use lib.ListN.{length}
use borrow.Author.Tests.{ltb-true, ltb-false, lt-ltb}
use Rattle.gregorian.specs.Days.{day_count}
use Rattle.rule.specs.declared.Frequency.{Frequency}
use Rattle.rule.specs.declared.Frequency.TheVariants.{Daily, Weekly, Monthly, Yearly}
use Rattle.rule.specs.declared.Day.{Day}
use Rattle.rule.specs.Day.{day_at}
use Rattle.rule.specs.Lists.{count_in}
use Rattle.rule.specs.Period.{since_first, days_of}
use Rattle.rule.specs.Gives.{end_day}
use Rattle.rule.proofs.Bools.{by}
use Rattle.rule.proofs.Counting.{count-more, count_less, count_none, count-split}
use Rattle.rule.proofs.PeriodLaws.{day-number}
use Rattle.rule.proofs.DayLaws.{of-day, step-month, step-year, step-next-year}
use Rattle.matcher.specs.declared.Terms.{Terms}
use Rattle.matcher.specs.Inner.Flags.{Places, named, stays_by}
use Rattle.matcher.specs.Inner.Layout.{positions_at, positions_back, row_size}
use Rattle.matcher.specs.Inner.Walk.{Asked, stays_on_by, step_by, placed_by, picks_by, picks_on_by}
use Rattle.matcher.proofs.WalkLaws.{number_is, asked-early, asked-places, asked-small, stays_on, picks-on}
use Rattle.track.specs.declared.Cursor.{Cursor}
use Rattle.track.specs.Inner.Steps.{is_counted, staying, seen_on, total_on, cursor_on, cursor_at, Reached, Holding}

-- ---- the next day of the same period

pub record SamePeriod (f : Frequency) (w : ℕ) (x y : Day) : Type 0 where
  pub since : since_first f w y ≡ since_first f w x + 1
  pub whole : days_of f y ≡ days_of f x

module _ (w : ℕ) (x y : Day) (is : x ≡ day_at x.number) (h : x.number + 1 < day_count) (e : y ≡ day_at (x.number + 1)) (week : w < 7) where
  weekly : (since_first Weekly w y ≡ 0 → ⊥) → SamePeriod Weekly w x y
  unfolding since_first days_of
  weekly other =
      let at : y.number ≡ x.number + 1 = number_is y (x.number + 1) e in
      record { since = omega arith; whole = refl }

  monthly : (since_first Monthly w y ≡ 0 → ⊥) → SamePeriod Monthly w x y
  unfolding since_first days_of
  monthly other =
      let facts = of-day x is h in
      by (ltb x.monthday x.monthdays)
      (λ b.
      let same = e ∙ sym (step-month x is h (ltb-true x.monthday x.monthdays b)) in
      let day = ap (λ (d : Day). d.monthday) same in
      record { since = omega (arith, facts.monthday_low); whole = ap (λ (d : Day). d.monthdays) same })
      (λ b.
      by (ltb x.month 12)
      (λ c.
      let same = e ∙ sym (step-year x is h (ltb-false x.monthday x.monthdays b) (ltb-true x.month 12 c)) in
      let day = ap (λ (d : Day). d.monthday) same in
      absurd (other (omega arith)))
      (λ c.
      let same = e ∙ sym (step-next-year x is h (ltb-false x.monthday x.monthdays b) (ltb-false x.month 12 c)) in
      let day = ap (λ (d : Day). d.monthday) same in
      absurd (other (omega arith))))

  yearly : (since_first Yearly w y ≡ 0 → ⊥) → SamePeriod Yearly w x y
  unfolding since_first days_of
  yearly other =
      by (ltb x.monthday x.monthdays)
      (λ b.
      let same = e ∙ sym (step-month x is h (ltb-true x.monthday x.monthdays b)) in
      record { since = ap (λ (d : Day). d.yearday) same; whole = ap (λ (d : Day). d.yeardays) same })
      (λ b.
      by (ltb x.month 12)
      (λ c.
      let same = e ∙ sym (step-year x is h (ltb-false x.monthday x.monthdays b) (ltb-true x.month 12 c)) in
      record { since = ap (λ (d : Day). d.yearday) same; whole = ap (λ (d : Day). d.yeardays) same })
      (λ c.
      let same = e ∙ sym (step-next-year x is h (ltb-false x.monthday x.monthdays b) (ltb-false x.month 12 c)) in
      let day = ap (λ (d : Day). d.yearday) same in
      absurd (other day)))

  pub same-period : (f : Frequency) → (since_first f w y ≡ 0 → ⊥) → SamePeriod f w x y
  unfolding since_first
  same-period Daily other = absurd (other refl)
  same-period Weekly other = weekly other
  same-period Monthly other = monthly other
  same-period Yearly other = yearly other

-- ---- what is carried

module _ (t : Terms) (row : List Bool) (x y : Day) (next : y.number ≡ x.number + 1) (early : since_first t.frequency t.first x ≤ x.number)
    (p : SamePeriod t.frequency t.first x y) where
  before : ℕ
  before = since_first t.frequency t.first x

  same_first : y.number - since_first t.frequency t.first y ≡ x.number - since_first t.frequency t.first x
  same_first = omega (arith, p.since)

  same_start : (k : ℕ) → staying t row y k ≡ staying t row x k
  unfolding staying
  same_start k = ap (λ (a : ℕ). count_in (stays_on_by row t.inyear) a k) same_first

  pub total-carried : staying t row x (days_of t.frequency x) ≡ staying t row y (days_of t.frequency y)
  total-carried = sym (same_start (days_of t.frequency y) ∙ ap (staying t row x) p.whole)

  one_more : staying t row y (since_first t.frequency t.first y)
      ≡ staying t row x (since_first t.frequency t.first x) + count_in (stays_on_by row t.inyear) x.number 1
  unfolding staying
  one_more =
      let here : x.number - since_first t.frequency t.first x + since_first t.frequency t.first x ≡ x.number = omega arith in
      same_start (since_first t.frequency t.first y)
      ∙ (ap (count_in (stays_on_by row t.inyear) (x.number - since_first t.frequency t.first x)) p.since
      ∙ (count-split (stays_on_by row t.inyear) (x.number - since_first t.frequency t.first x) (since_first t.frequency t.first x) 1
      ∙ ap (λ (a : ℕ). count_in (stays_on_by row t.inyear) (x.number - since_first t.frequency t.first x) (since_first t.frequency t.first x) + count_in (stays_on_by row t.inyear) a 1) here))

  pub seen_more : stays_on_by row t.inyear x.number ≡ true
      → staying t row x (since_first t.frequency t.first x) + 1 ≡ staying t row y (since_first t.frequency t.first y)
  seen_more yes-it-does =
      let one = count-more (stays_on_by row t.inyear) x.number 0 yes-it-does in
      let none = count_none (stays_on_by row t.inyear) (suc x.number) in
      let all = one_more in
      omega arith

  pub seen_same : stays_on_by row t.inyear x.number ≡ false
      → staying t row x (since_first t.frequency t.first x) ≡ staying t row y (since_first t.frequency t.first y)
  seen_same no-it-does-not =
      let one = count_less (stays_on_by row t.inyear) x.number 0 no-it-does-not in
      let none = count_none (stays_on_by row t.inyear) (suc x.number) in
      let all = one_more in
      omega arith

-- ---- a cursor as the code makes it

module _ (t : Terms) (row : List Bool) (x : Day) where
  plain : is_counted t x.number ≡ false → record { day = x; seen = 0; total = 0 } ≡ cursor_on t row x
  unfolding cursor_on seen_on total_on
  plain e = rw e

  made : (seen total : ℕ) → is_counted t x.number ≡ true → seen ≡ staying t row x (since_first t.frequency t.first x)
      → total ≡ staying t row x (days_of t.frequency x) → record { day = x; seen = seen; total = total } ≡ cursor_on t row x
  unfolding cursor_on seen_on total_on
  made seen total e f g = rw (e, f, g)

  pub cursor-plain : (counted : Bool) → counted ≡ is_counted t x.number → counted ≡ false → record { day = x; seen = 0; total = 0 } ≡ cursor_on t row x
  cursor-plain counted is no-it-is-not = plain (sym is ∙ no-it-is-not)

  pub cursor-made : (counted : Bool) (since whole first seen total : ℕ) → counted ≡ is_counted t x.number → counted ≡ true
      → since ≡ since_first t.frequency t.first x → whole ≡ days_of t.frequency x → first ≡ x.number - since
      → seen ≡ count_in (stays_on_by row t.inyear) first since → total ≡ count_in (stays_on_by row t.inyear) first whole
      → record { day = x; seen = seen; total = total } ≡ cursor_on t row x
  unfolding staying
  cursor-made counted since whole first seen total is yes-it-is a b e f g = made seen total (sym is ∙ yes-it-is) (f ∙ rw (e, a)) (g ∙ rw (e, a, b))

  -- the first day of its period
  pub cursor-first : (counted : Bool) (since whole total : ℕ) → counted ≡ is_counted t x.number → counted ≡ true
      → since ≡ since_first t.frequency t.first x → whole ≡ days_of t.frequency x → since ≡ 0
      → total ≡ count_in (stays_on_by row t.inyear) x.number whole → record { day = x; seen = 0; total = total } ≡ cursor_on t row x
  cursor-first counted since whole total is yes-it-is a b none g =
      cursor-made counted since whole x.number 0 total is yes-it-is a b (omega arith)
      (sym (ap (count_in (stays_on_by row t.inyear) x.number) none ∙ count_none (stays_on_by row t.inyear) x.number)) g

  pub counted-asked : (counted : Bool) → counted ≡ is_counted t x.number → counted ≡ true → x ≡ day_at x.number → Reached t (length row) x.number → Asked t (length row) x
  unfolding is_counted
  counted-asked counted is yes-it-is day r =
      record {
        row_length = r.row_length;
        week = r.week;
        day = day;
        low = r.low;
        high = ltb-true x.number end_day (within t.placed (sym is ∙ yes-it-is));
      }
    where
      within : (b : Bool) → (if b then ltb x.number end_day else false) ≡ true → ltb x.number end_day ≡ true
      within true e = e
      within false e = absurd (false≢true e)

pub cursor-at-day : (t : Terms) (row : List Bool) (x : Day) (n : ℕ) → x ≡ day_at n → cursor_on t row x ≡ cursor_at t row n
unfolding cursor_at
cursor-at-day t row x n e = ap (cursor_on t row) e

-- ---- a cursor that is held

module _ (t : Terms) (row : List Bool) (c : Cursor) (hold : Holding t row (length row) c) where
  pub held-day : c.day ≡ day_at c.day.number
  unfolding cursor_at cursor_on
  held-day = ap (λ (k : Cursor). k.day) hold.is

  pub held-asked : Asked t (length row) c.day
  held-asked = record { row_length = hold.row_length; week = hold.week; day = held-day; low = hold.low; high = hold.high }

  module _ (placed : t.placed ≡ true) where
    counted : is_counted t c.day.number ≡ true
    unfolding is_counted
    counted = rw placed (lt-ltb c.day.number end_day hold.high)

    pub held-seen : c.seen ≡ staying t row c.day (since_first t.frequency t.first c.day)
    unfolding cursor_at cursor_on seen_on
    held-seen = ap (λ (k : Cursor). k.seen) hold.is ∙ (ap (seen_on t row) (sym held-day) ∙ rw counted)

    pub held-total : c.total ≡ staying t row c.day (days_of t.frequency c.day)
    unfolding cursor_at cursor_on total_on
    held-total = ap (λ (k : Cursor). k.total) hold.is ∙ (ap (total_on t row) (sym held-day) ∙ rw counted)

    pub held-places : stays_by row t.inyear c.day ≡ true → Places (length row) positions_at positions_back (c.seen + 1) c.total
    unfolding staying
    held-places e = asked-places t (length row) c.day held-asked row c.seen c.total e held-seen held-total

    pub held_small : c.seen ≤ 366
    unfolding staying
    held_small = let most = asked-small t (length row) c.day held-asked row in omega (arith, held-seen)

  -- the four answers
  module _ (r : Bool) where
    answer : picks_by t row c.day ≡ r → r ≡ picks_on_by t row c.day.number
    answer h = sym (picks-on t row c.day r held-day h)

    pub picks-gone : stays_by row t.inyear c.day ≡ false → r ≡ false → r ≡ picks_on_by t row c.day.number
    unfolding picks_by
    picks-gone e f = answer (rw e (sym f))

    pub picks-out-of-step : stays_by row t.inyear c.day ≡ true → step_by t c.day ≡ false → r ≡ false → r ≡ picks_on_by t row c.day.number
    unfolding picks_by
    picks-out-of-step e g f = answer (rw (e, g) (sym f))

    pub picks-any : stays_by row t.inyear c.day ≡ true → step_by t c.day ≡ true → t.placed ≡ false → r ≡ true → r ≡ picks_on_by t row c.day.number
    unfolding picks_by
    picks-any e g p f = answer (rw (e, g, p) (sym f))

    pub picks-placed : stays_by row t.inyear c.day ≡ true → step_by t c.day ≡ true → t.placed ≡ true → r ≡ named row positions_at positions_back (c.seen + 1) c.total
        → r ≡ picks_on_by t row c.day.number
    unfolding picks_by placed_by staying
    picks-placed e g p f = answer (rw (e, g, p) (sym (f ∙ rw (held-seen p, held-total p))))

  -- ---- the day after

  module _ (y : Day) (next : y ≡ day_at (c.day.number + 1)) where
    y-number : y.number ≡ c.day.number + 1
    y-number = number_is y (c.day.number + 1) next

    pub next-reached : Reached t (length row) y.number
    next-reached =
        let low = hold.low in
        let high = hold.high in
        record { row_length = hold.row_length; week = hold.week; low = omega (arith, y-number); high = omega (arith, y-number) }

    pub next-again : y ≡ day_at y.number
    next-again = next ∙ ap day_at (sym y-number)

    is-placed : is_counted t y.number ≡ true → t.placed ≡ true
    unfolding is_counted
    is-placed e = go t.placed e
      where
        go : (b : Bool) → (if b then ltb y.number end_day else false) ≡ true → b ≡ true
        go true f = refl
        go false f = f

    module _ (is : Bool) (asks : is ≡ is_counted t y.number) (yes-it-is : is ≡ true) (since : ℕ) (is-since : since ≡ since_first t.frequency t.first y) (other : since ≡ 0 → ⊥) where
      period : SamePeriod t.frequency t.first c.day y
      period =
          let high = hold.high in
          same-period t.first c.day y held-day (omega arith) next hold.week t.frequency (λ none. other (is-since ∙ none))

      pub next-placed : t.placed ≡ true
      next-placed = is-placed (sym asks ∙ yes-it-is)

      pub next_more : stays_by row t.inyear c.day ≡ true → record { day = y; seen = c.seen + 1; total = c.total } ≡ cursor_at t row (c.day.number + 1)
      next_more e =
          made t row y (c.seen + 1) c.total (sym asks ∙ yes-it-is)
          (ap (λ (k : ℕ). k + 1) (held-seen next-placed)
          ∙ seen_more t row c.day y y-number (asked-early t (length row) c.day held-asked) period (stays_on row t.inyear c.day true held-day e))
          (held-total next-placed ∙ total-carried t row c.day y y-number (asked-early t (length row) c.day held-asked) period)
          ∙ cursor-at-day t row y (c.day.number + 1) next

      pub next-other : stays_by row t.inyear c.day ≡ false → record { day = y; seen = c.seen; total = c.total } ≡ cursor_at t row (c.day.number + 1)
      next-other e =
          made t row y c.seen c.total (sym asks ∙ yes-it-is)
          (held-seen next-placed
          ∙ seen_same t row c.day y y-number (asked-early t (length row) c.day held-asked) period (stays_on row t.inyear c.day false held-day e))
          (held-total next-placed ∙ total-carried t row c.day y y-number (asked-early t (length row) c.day held-asked) period)
          ∙ cursor-at-day t row y (c.day.number + 1) next

-- ---- on the way

pub at-number : (t : Terms) (row : List Bool) (c : Cursor) (n : ℕ) → c ≡ cursor_at t row n → c.day.number ≡ n
unfolding cursor_at cursor_on
at-number t row c n e = ap (λ (k : Cursor). k.day.number) e ∙ day-number n

pub at_again : (t : Terms) (row : List Bool) (c : Cursor) (n : ℕ) → c ≡ cursor_at t row n → c ≡ cursor_at t row c.day.number
at_again t row c n e = e ∙ ap (cursor_at t row) (sym (at-number t row c n e))

pub held-here : (t : Terms) (row : List Bool) (c : Cursor) (n : ℕ) → length row ≡ row_size → t.first < 7 → 366 ≤ n → n < end_day → c ≡ cursor_at t row n
    → Holding t row (length row) c
held-here t row c n size week low high e =
    let at = at-number t row c n e in
    record { row_length = size; week = week; low = omega arith; high = omega arith; is = at_again t row c n e }

-- a leap, by the numbers of the days
pub at-leap : (t : Terms) (row : List Bool) (c next : Cursor) (n k : ℕ) → c ≡ cursor_at t row n → next ≡ cursor_at t row (c.day.number + k)
    → next ≡ cursor_at t row (n + k)
at-leap t row c next n k e f = f ∙ ap (λ (d : ℕ). cursor_at t row (d + k)) (at-number t row c n e)
