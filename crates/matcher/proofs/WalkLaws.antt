-- Laws of the walk from day to day.
use Prim.Native.Nat.{ℕ, suc, ◌+◌, ◌-◌, ◌%◌, ◌<◌, ◌≤◌}
use mathlib.Core.Bool.{Bool, true, false, not}
use mathlib.Core.List.{List}
use mathlib.Core.Path.{◌≡◌, sym, ap, ◌∙◌, subst}
use native.Mathlib.Omega.{arith}
use native.Mathlib.Nat.{zero-mod, mod-zero}
use native.Mathlib.Numerals.{add-one}
use lib.Dec.{eqb}
use borrow.Author.Tests.{eq-eqb, ne_eqb}
use Rattle.gregorian.specs.Days.{day_count}
use Rattle.rule.specs.declared.Day.{Day}
use Rattle.rule.specs.Day.{day_at}
use Rattle.rule.specs.Lists.{count_in}
use Rattle.rule.specs.Period.{period_of, since_first, days_of}
use Rattle.rule.specs.Inner.Bounds.{InCalendar}
use Rattle.rule.proofs.Counting.{count-more, count_less, count_none, count_most, count-place}
use Rattle.rule.proofs.DayLaws.{day-facts}
use Rattle.rule.proofs.PeriodLaws.{day-number, since-in, days-most, period-within}
use Rattle.matcher.specs.declared.Terms.{Terms}
use Rattle.matcher.specs.Inner.Flags.{Places, stays_by}
use Rattle.matcher.specs.Inner.Layout.{positions_at, positions_back}
use Rattle.matcher.specs.Inner.Walk.{Asked, stays_on_by, step_by, picks_by, picks_on_by}

-- ---- the interval

pub step-each : (t : Terms) (x : Day) → t.interval ≡ 1 → true ≡ step_by t x
unfolding step_by
step-each t x e =
    let none : (period_of t.frequency t.first x - t.period) % 1 ≡ 0 = omega arith in
    rw e (sym (eq-eqb _ 0 none))

module _ (t : Terms) (x : Day) (period later : ℕ) (is : period ≡ period_of t.frequency t.first x) (by : later ≡ period - t.period) where
  pub step-first : later ≡ 0 → eqb later 0 ≡ step_by t x
  unfolding step_by
  step-first h =
      let none : period_of t.frequency t.first x - t.period ≡ 0 = omega (arith, is, by) in
      rw (none, zero-mod t.interval, h)

  pub step-never : (later ≡ 0 → ⊥) → t.interval ≡ 0 → not (eqb t.interval 0) ≡ step_by t x
  unfolding step_by
  step-never h z =
      let other = ne_eqb (period_of t.frequency t.first x - t.period) 0 (omega (arith, is, by)) in
      rw (z, mod-zero, other)

  pub step-later : (n : ℕ) → n ≡ later → eqb (n % t.interval) 0 ≡ step_by t x
  unfolding step_by
  step-later n e = rw (e, by, is)

-- ---- days by their numbers

pub number_is : (x : Day) (n : ℕ) → x ≡ day_at n → x.number ≡ n
number_is x n e = ap (λ (y : Day). y.number) e ∙ day-number n

pub day-again : (x : Day) (n : ℕ) → x ≡ day_at n → x ≡ day_at x.number
day-again x n e = e ∙ ap day_at (sym (number_is x n e))

pub in-calendar : (x : Day) (n : ℕ) → x ≡ day_at n → n < day_count → InCalendar x
in-calendar x n e h = subst InCalendar (sym e) (day-facts n h)

-- ---- counting

pub record Counting (p : ℕ → Bool) (first n : ℕ) (x : Day) (left found : ℕ) : Type 0 where
  pub day : x ≡ day_at x.number
  pub low : first ≤ x.number
  pub ends : x.number + left ≡ first + n
  pub fits : x.number + left < day_count
  pub few : found + left ≤ n
  pub sum : found + count_in p x.number left ≡ count_in p first n

module _ (p : ℕ → Bool) (first n : ℕ) where
  module _ (x y : Day) (left rest found : ℕ) (i : Counting p first n x left found) (one_less : left ≡ suc rest) (e : y ≡ day_at (x.number + 1)) where
    next-number : y.number ≡ suc x.number
    next-number = number_is y (x.number + 1) e ∙ add-one x.number

    pub counting-yes : p x.number ≡ true → Counting p first n y rest (found + 1)
    counting-yes yes-it-is =
        let sum = i.sum in
        let here = count-more p x.number rest yes-it-is in
        let all : count_in p x.number left ≡ suc (count_in p (suc x.number) rest) = ap (count_in p x.number) one_less ∙ here in
        record {
          day = day-again y (x.number + 1) e;
          low = omega (arith, i.low, next-number);
          ends = omega (arith, i.ends, next-number);
          fits = omega (arith, i.fits, next-number);
          few = omega (arith, i.few);
          sum = rw next-number (omega arith);
        }

    pub counting-no : p x.number ≡ false → Counting p first n y rest found
    counting-no no-it-is-not =
        let sum = i.sum in
        let here = count_less p x.number rest no-it-is-not in
        let all : count_in p x.number left ≡ count_in p (suc x.number) rest = ap (count_in p x.number) one_less ∙ here in
        record {
          day = day-again y (x.number + 1) e;
          low = omega (arith, i.low, next-number);
          ends = omega (arith, i.ends, next-number);
          fits = omega (arith, i.fits, next-number);
          few = omega (arith, i.few);
          sum = rw next-number (omega arith);
        }

  pub counting-ends : (x : Day) (left found : ℕ) → Counting p first n x left found → left ≤ 0 → found ≡ count_in p first n
  counting-ends x left found i h =
      let none : left ≡ 0 = omega arith in
      let sum = i.sum in
      let nothing : count_in p x.number left ≡ 0 = rw none (count_none p x.number) in
      omega arith

-- what `stays` says of a day, by its number
pub stays_on : (fl : List Bool) (in_year : Bool) (x : Day) (b : Bool) → x ≡ day_at x.number → stays_by fl in_year x ≡ b
    → stays_on_by fl in_year x.number ≡ b
unfolding stays_on_by
stays_on fl in_year x b e h = ap (stays_by fl in_year) (sym e) ∙ h

-- ---- a day among those of its period that stay

-- the days of its period before a day, and all of them
abbrev pub before : Terms → Day → ℕ
before t x = since_first t.frequency t.first x

abbrev pub whole : Terms → Day → ℕ
whole t x = days_of t.frequency x

module _ (t : Terms) (row : ℕ) (x : Day) (a : Asked t row x) where
  pub known : x.number < day_count
  known = omega (arith, a.high)

  pub asked-day : InCalendar x
  asked-day = in-calendar x x.number a.day known

  pub asked-before : before t x < whole t x
  asked-before =
      subst (λ (y : Day). before t y < whole t y) (sym a.day) (since-in t.first x.number known t.frequency)

  pub asked-most : whole t x ≤ 366
  asked-most = subst (λ (y : Day). whole t y ≤ 366) (sym a.day) (days-most t.first x.number known t.frequency)

  pub asked-early : before t x ≤ x.number
  asked-early = omega (arith, asked-before, asked-most, a.low)

  pub asked-within : x.number - before t x + whole t x < day_count
  asked-within =
      subst (λ (y : Day). x.number - before t y + whole t y < day_count) (sym a.day)
      (period-within t.first x.number known a.high a.low t.frequency)

  -- a day that stays has its place
  pub asked-places : (fl : List Bool) (earlier count : ℕ) → stays_by fl t.inyear x ≡ true
      → earlier ≡ count_in (stays_on_by fl t.inyear) (x.number - before t x) (before t x)
      → count ≡ count_in (stays_on_by fl t.inyear) (x.number - before t x) (whole t x)
      → Places row positions_at positions_back (earlier + 1) count
  asked-places fl earlier count e f g =
      let p = stays_on_by fl t.inyear in
      let first = x.number - before t x in
      let back : first + before t x ≡ x.number = omega (arith, asked-early) in
      let here : p (first + before t x) ≡ true = rw back (stays_on fl t.inyear x true a.day e) in
      let placed = count-place p first (before t x) (whole t x) here asked-before in
      let most = count_most p first (whole t x) in
      record {
        low = omega arith;
        high = omega (arith, placed);
        small = omega (arith, most, asked-most);
        on_row = omega (arith, most, asked-most, a.row_length);
        back_row = omega (arith, most, asked-most, a.row_length);
        row = omega (arith, a.row_length);
      }

  pub asked-small : (fl : List Bool) → count_in (stays_on_by fl t.inyear) (x.number - before t x) (before t x) ≤ 366
  asked-small fl = omega (arith, count_most (stays_on_by fl t.inyear) (x.number - before t x) (before t x), asked-before, asked-most)

pub picks-on : (t : Terms) (fl : List Bool) (x : Day) (b : Bool) → x ≡ day_at x.number → picks_by t fl x ≡ b
    → picks_on_by t fl x.number ≡ b
unfolding picks_on_by
picks-on t fl x b e h = ap (picks_by t fl) (sym e) ∙ h
