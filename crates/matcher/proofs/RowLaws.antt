-- A marked row says of each day what the rule's by-lists say.
use Rattle.std.specs.Prelude.{if◌then◌else◌}
use Prim.Native.Nat.{ℕ, ◌+◌, ◌-◌, ◌*◌, ◌/◌, ◌<◌, ◌≤◌}
use mathlib.Core.Bool.{Bool, true, false, ◌&&◌}
use mathlib.Core.List.{List, [], ◌∷◌}
use mathlib.Core.Logic.{◌⊎◌, inl, inr}
use mathlib.Core.Option.{Option, none, some}
use mathlib.Core.Path.{◌≡◌, refl, ◌∙◌, subst}
use native.Mathlib.Omega.{arith}
use lib.Dec.{eqb}
use lib.IntN.{ℤ}
use lib.ListN.{length, get_or}
use Rattle.signed.specs.Parts.{pos_part, neg_part}
use Rattle.signed.specs.Place.{place_of}
use Rattle.rule.specs.declared.Day.{Day}
use Rattle.rule.specs.Written.{NDay, RecurrenceRule}
use Rattle.rule.specs.Lists.{any, meets}
use Rattle.rule.specs.Implied.{days_from, month_days_from, months_from}
use Rattle.rule.specs.Stays.{counts_in_year, is_nth, meets_nth, meets_day, meets_month_day, meets_month, stays}
use Rattle.rule.specs.Inner.Bounds.{InCalendar}
use Rattle.matcher.specs.Inner.Flags.{named, nth_by, month_by, date_by, day_by, stays_by}
use Rattle.matcher.specs.Inner.Layout.{row_size, dates_at, dates_back, weekdays_at, nths_at, nths_back, positions_at, positions_back}
use Rattle.matcher.specs.Inner.Marks.{mark_each, mark_places, mark_all, mark_months, mark_dates, mark_weekdays, mark_row}
use Rattle.matcher.proofs.MarkLaws.{any_same, any-never, or-none, hits, hits-in, hits-below, hits-above, hits_place, each-length, each-flag, places-length, places-flag, all-length, all-other, all-flag, all-below, named-places}
use Rattle.matcher.proofs.WeekdayLaws.{nth_is, days-length, days-outside, weekday-named}

-- ---- what lies outside of a run of marks

each-above : (fl : List Bool) (at limit : ℕ) (l : List ℕ) (j : ℕ) → at + limit ≤ length fl → at + limit ≤ j
    → get_or (mark_each fl at limit l) j false ≡ get_or fl j false
each-above fl at limit l j room out =
    each-flag fl at limit l j room ∙ rw (any-never _ l (λ i. hits-above at limit i j out)) (or-none (get_or fl j false))

places-below : (fl : List Bool) (on back limit : ℕ) (l : List ℤ) (j : ℕ) → on + limit ≤ length fl → back + limit ≤ length fl → j < on → on ≤ back
    → get_or (mark_places fl on back limit l) j false ≡ get_or fl j false
places-below fl on back limit l j room more out order =
    places-flag fl on back limit l j room more
    ∙ rw (any-never (λ z. hits_place on back limit z j) l (λ z. rw (hits-below on limit (pos_part z) j out) (hits-below back limit (neg_part z) j (omega arith)))) (or-none (get_or fl j false))

places-above : (fl : List Bool) (on back limit : ℕ) (l : List ℤ) (j : ℕ) → on + limit ≤ length fl → back + limit ≤ length fl → back + limit ≤ j → on ≤ back
    → get_or (mark_places fl on back limit l) j false ≡ get_or fl j false
places-above fl on back limit l j room more out order =
    places-flag fl on back limit l j room more
    ∙ rw (any-never (λ z. hits_place on back limit z j) l (λ z. rw (hits-above on limit (pos_part z) j (omega arith)) (hits-above back limit (neg_part z) j out))) (or-none (get_or fl j false))

-- ---- layer by layer

months-length : (fl : List Bool) (l : List ℕ) → length (mark_months fl l) ≡ length fl
unfolding mark_months
months-length fl [] = all-length fl 0 dates_at
months-length fl (m ∷ l) = each-length fl 0 dates_at (m ∷ l)

months-above : (fl : List Bool) (l : List ℕ) (j : ℕ) → length fl ≡ row_size → dates_at ≤ j → get_or (mark_months fl l) j false ≡ get_or fl j false
unfolding mark_months
months-above fl [] j size h = all-other fl 0 dates_at j (omega arith)
months-above fl (m ∷ l) j size h = each-above fl 0 dates_at (m ∷ l) j (omega arith) (omega arith)

months-in : (fl : List Bool) (l : List ℕ) (m : ℕ) → length fl ≡ row_size → get_or fl m false ≡ false → m < dates_at
    → get_or (mark_months fl l) m false ≡ meets (λ i. eqb i m) l
unfolding mark_months meets
months-in fl [] m size clear h =
    let at : 0 + m ≡ m = omega arith in
    subst (λ (j : ℕ). get_or (mark_all fl 0 dates_at) j false ≡ true) at (all-flag fl 0 dates_at m (omega arith) h)
months-in fl (i ∷ l) m size clear h =
    each-flag fl 0 dates_at (i ∷ l) m (omega arith)
    ∙ rw clear (any_same (λ i. hits 0 dates_at i m) (λ i. eqb i m) (i ∷ l)
    (λ i.
    let at : 0 + m ≡ m = omega arith in
    subst (λ (j : ℕ). hits 0 dates_at i j ≡ eqb i m) at (hits-in 0 dates_at i m h)))

dates-length : (fl : List Bool) (l : List ℤ) → length (mark_dates fl l) ≡ length fl
unfolding mark_dates
dates-length fl [] = all-length fl dates_at 32
dates-length fl (z ∷ l) = places-length fl dates_at dates_back 32 (z ∷ l)

dates-outside : (fl : List Bool) (l : List ℤ) (j : ℕ) → length fl ≡ row_size → (j < dates_at) ⊎ (weekdays_at ≤ j) → get_or (mark_dates fl l) j false ≡ get_or fl j false
unfolding mark_dates
dates-outside fl [] j size (inl h) = all-below fl dates_at 32 j h
dates-outside fl [] j size (inr h) = all-other fl dates_at 32 j (omega arith)
dates-outside fl (z ∷ l) j size (inl h) = places-below fl dates_at dates_back 32 (z ∷ l) j (omega arith) (omega arith) h (omega arith)
dates-outside fl (z ∷ l) j size (inr h) = places-above fl dates_at dates_back 32 (z ∷ l) j (omega arith) (omega arith) (omega arith) (omega arith)

named-yes : (fl : List Bool) (on back p n : ℕ) → get_or fl (on + p) false ≡ true → named fl on back p n ≡ true
unfolding named
named-yes fl on back p n e = rw e

dates-in : (fl : List Bool) (l : List ℤ) (p n : ℕ) → length fl ≡ row_size → ((j : ℕ) → dates_at ≤ j → get_or fl j false ≡ false) → 1 ≤ p → p ≤ n → n ≤ 31
    → named (mark_dates fl l) dates_at dates_back p n ≡ meets (λ z. eqb (place_of z n) p) l
unfolding mark_dates meets
dates-in fl [] p n size clear low high small = named-yes (mark_all fl dates_at 32) dates_at dates_back p n (all-flag fl dates_at 32 p (omega arith) (omega arith))
dates-in fl (z ∷ l) p n size clear low high small =
    named-places fl dates_at dates_back 32 (z ∷ l) p n (omega arith) (omega arith) (clear (dates_at + p) (omega arith)) (clear (dates_back + (n + 1 - p)) (omega arith)) low high (omega arith)

weekdays-length : (fl : List Bool) (l : List NDay) → length (mark_weekdays fl l) ≡ length fl
unfolding mark_weekdays
weekdays-length fl [] = all-length fl weekdays_at 7
weekdays-length fl (e ∷ l) = days-length fl (e ∷ l)

weekdays-outside : (fl : List Bool) (l : List NDay) (j : ℕ) → length fl ≡ row_size → (j < weekdays_at) ⊎ (positions_at ≤ j) → get_or (mark_weekdays fl l) j false ≡ get_or fl j false
unfolding mark_weekdays
weekdays-outside fl [] j size (inl h) = all-below fl weekdays_at 7 j h
weekdays-outside fl [] j size (inr h) = all-other fl weekdays_at 7 j (omega arith)
weekdays-outside fl (e ∷ l) j size out = days-outside fl (e ∷ l) j (omega arith) out

if_yes : (a b : Bool) → a ≡ true → (if a then true else b) ≡ true
if_yes a b e = rw e

weekdays-in : (fl : List Bool) (l : List NDay) (w p n : ℕ) → length fl ≡ row_size → ((j : ℕ) → weekdays_at ≤ j → get_or fl j false ≡ false) → w < 7 → 1 ≤ p → p ≤ n → n < 54
    → (if get_or (mark_weekdays fl l) (weekdays_at + w) false then true else named (mark_weekdays fl l) (nths_at + 54 * w) (nths_back + 54 * w) p n)
    ≡ meets (λ e. eqb e.day w && nth_is e.nth_of_period p n) l
unfolding mark_weekdays meets
weekdays-in fl [] w p n size clear week low high small = if_yes _ _ (all-flag fl weekdays_at 7 w (omega arith) week)
weekdays-in fl (e ∷ l) w p n size clear week low high small =
    weekday-named w week fl (e ∷ l) p n (omega arith) low high small (clear (weekdays_at + w) (omega arith)) (clear (nths_at + 54 * w + p) (omega arith)) (clear (nths_back + 54 * w + (n + 1 - p)) (omega arith))

-- ---- the whole row

pub record Marked (r : RecurrenceRule) (s : Day) (row : List Bool) : Type 0 where
  pub size : length row ≡ row_size
  pub months : (m : ℕ) → m < dates_at → get_or row m false ≡ meets (λ i. eqb i m) (months_from r s)
  pub dates : (p n : ℕ) → 1 ≤ p → p ≤ n → n ≤ 31 → named row dates_at dates_back p n ≡ meets (λ z. eqb (place_of z n) p) (month_days_from r s)
  pub weekdays : (w p n : ℕ) → w < 7 → 1 ≤ p → p ≤ n → n < 54
      → (if get_or row (weekdays_at + w) false then true else named row (nths_at + 54 * w) (nths_back + 54 * w) p n)
      ≡ meets (λ e. eqb e.day w && nth_is e.nth_of_period p n) (days_from r s)
  pub positions : (p n : ℕ) → 1 ≤ p → p ≤ n → n ≤ 366 → named row positions_at positions_back p n ≡ any (λ z. eqb (place_of z n) p) r.by_set_position

-- flags that are the same name the same
named-same : (a b : List Bool) (on back p n : ℕ) → get_or a (on + p) false ≡ get_or b (on + p) false
    → get_or a (back + (n + 1 - p)) false ≡ get_or b (back + (n + 1 - p)) false → named a on back p n ≡ named b on back p n
unfolding named
named-same a b on back p n e f = rw (e, f)

module _ (fl : List Bool) (r : RecurrenceRule) (s : Day) (size : length fl ≡ row_size) (clear : (j : ℕ) → get_or fl j false ≡ false) where
  a : List Bool
  a = mark_months fl (months_from r s)

  b : List Bool
  b = mark_dates a (month_days_from r s)

  c : List Bool
  c = mark_weekdays b (days_from r s)

  a-size : length a ≡ row_size
  unfolding a
  a-size = months-length fl (months_from r s) ∙ size

  b-size : length b ≡ row_size
  unfolding b
  b-size = dates-length a (month_days_from r s) ∙ a-size

  c-size : length c ≡ row_size
  unfolding c
  c-size = weekdays-length b (days_from r s) ∙ b-size

  a-clear : (j : ℕ) → dates_at ≤ j → get_or a j false ≡ false
  unfolding a
  a-clear j h = months-above fl (months_from r s) j size h ∙ clear j

  b-clear : (j : ℕ) → weekdays_at ≤ j → get_or b j false ≡ false
  unfolding b
  b-clear j h = dates-outside a (month_days_from r s) j a-size (inr h) ∙ a-clear j (omega arith)

  c-clear : (j : ℕ) → positions_at ≤ j → get_or c j false ≡ false
  unfolding c
  c-clear j h = weekdays-outside b (days_from r s) j b-size (inr h) ∙ b-clear j (omega arith)

  -- below the positions the row is c, below the weekdays b, below the days of the month a
  row : List Bool
  row = mark_places c positions_at positions_back 367 r.by_set_position

  row-c : (j : ℕ) → j < positions_at → get_or row j false ≡ get_or c j false
  unfolding row
  row-c j h = places-below c positions_at positions_back 367 r.by_set_position j (omega (arith, c-size)) (omega (arith, c-size)) h (omega arith)

  row-b : (j : ℕ) → j < weekdays_at → get_or row j false ≡ get_or b j false
  unfolding c
  row-b j h = row-c j (omega arith) ∙ weekdays-outside b (days_from r s) j b-size (inl h)

  row-a : (j : ℕ) → j < dates_at → get_or row j false ≡ get_or a j false
  unfolding b
  row-a j h = row-b j (omega arith) ∙ dates-outside a (month_days_from r s) j a-size (inl h)

  in-weekdays : (w p n : ℕ) → w < 7 → 1 ≤ p → p ≤ n → n < 54
      → (if get_or row (weekdays_at + w) false then true else named row (nths_at + 54 * w) (nths_back + 54 * w) p n)
      ≡ meets (λ e. eqb e.day w && nth_is e.nth_of_period p n) (days_from r s)
  unfolding c
  in-weekdays w p n week low high small =
      rw (
        row-c (weekdays_at + w) (omega arith),
        named-same row c (nths_at + 54 * w) (nths_back + 54 * w) p n (row-c (nths_at + 54 * w + p) (omega arith)) (row-c (nths_back + 54 * w + (n + 1 - p)) (omega arith)),
      )
      (weekdays-in b (days_from r s) w p n b-size b-clear week low high small)

  in-dates : (p n : ℕ) → 1 ≤ p → p ≤ n → n ≤ 31 → named row dates_at dates_back p n ≡ meets (λ z. eqb (place_of z n) p) (month_days_from r s)
  unfolding b
  in-dates p n low high small =
      named-same row b dates_at dates_back p n (row-b (dates_at + p) (omega arith)) (row-b (dates_back + (n + 1 - p)) (omega arith))
      ∙ dates-in a (month_days_from r s) p n a-size a-clear low high small

  in-months : (m : ℕ) → m < dates_at → get_or row m false ≡ meets (λ i. eqb i m) (months_from r s)
  unfolding a
  in-months m h = row-a m h ∙ months-in fl (months_from r s) m size (clear m) h

  in-positions : (p n : ℕ) → 1 ≤ p → p ≤ n → n ≤ 366 → named row positions_at positions_back p n ≡ any (λ z. eqb (place_of z n) p) r.by_set_position
  unfolding row
  in-positions p n low high small =
      named-places c positions_at positions_back 367 r.by_set_position p n (omega arith) (omega (arith, c-size)) (c-clear (positions_at + p) (omega arith)) (c-clear (positions_back + (n + 1 - p)) (omega arith)) low high (omega arith)

  pub row-marked : Marked r s (mark_row fl r s)
  unfolding mark_row row a b c
  row-marked =
      record {
        size = places-length c positions_at positions_back 367 r.by_set_position ∙ c-size;
        months = in-months;
        dates = in-dates;
        weekdays = in-weekdays;
        positions = in-positions;
      }

-- ---- a day against a marked row

chain : (a b c : Bool) → (if a then (if b then c else false) else false) ≡ (a && (b && c))
chain true true c = refl
chain true false c = refl
chain false b c = refl

meets-same : {A : Type 0} (p q : A → Bool) (l : List A) → ((a : A) → p a ≡ q a) → meets p l ≡ meets q l
unfolding meets
meets-same p q [] h = refl
meets-same p q (a ∷ l) h = any_same p q (a ∷ l) h

module _ (r : RecurrenceRule) (s : Day) (row : List Bool) (m : Marked r s row) (x : Day) (f : InCalendar x) where
  nth-place : (before n : ℕ) → before < n → n ≤ 366
      → (if get_or row (weekdays_at + x.weekday) false then true else nth_by row x.weekday before n)
      ≡ meets (λ e. eqb e.day x.weekday && nth_is e.nth_of_period (before / 7 + 1) (before / 7 + 1 + (n - (before + 1)) / 7)) (days_from r s)
  unfolding nth_by
  nth-place before n h small = m.weekdays x.weekday (before / 7 + 1) (before / 7 + 1 + (n - (before + 1)) / 7) f.weekday (omega arith) (omega arith) (omega arith)

  year-entry : (e : NDay) → (eqb e.day x.weekday && nth_is e.nth_of_period (x.yearday / 7 + 1) (x.yearday / 7 + 1 + (x.yeardays - (x.yearday + 1)) / 7)) ≡ meets_day true x e
  unfolding meets_day meets_nth is_nth
  year-entry e = go e.nth_of_period
    where
      go : (o : Option ℤ) → (eqb e.day x.weekday && nth_is o (x.yearday / 7 + 1) (x.yearday / 7 + 1 + (x.yeardays - (x.yearday + 1)) / 7)) ≡ (eqb e.day x.weekday && meets_nth o true x)
      go none = refl
      go (some z) = refl

  month-entry : (e : NDay) → (eqb e.day x.weekday && nth_is e.nth_of_period ((x.monthday - 1) / 7 + 1) ((x.monthday - 1) / 7 + 1 + (x.monthdays - (x.monthday - 1 + 1)) / 7)) ≡ meets_day false x e
  unfolding meets_day meets_nth is_nth
  month-entry e = go e.nth_of_period
    where
      go : (o : Option ℤ) → (eqb e.day x.weekday && nth_is o ((x.monthday - 1) / 7 + 1) ((x.monthday - 1) / 7 + 1 + (x.monthdays - (x.monthday - 1 + 1)) / 7)) ≡ (eqb e.day x.weekday && meets_nth o false x)
      go none = refl
      go (some z) = refl

  meets-days : (in_year : Bool) → day_by row in_year x ≡ meets (meets_day in_year x) (days_from r s)
  unfolding day_by
  meets-days true =
      nth-place x.yearday x.yeardays f.yearday f.yeardays ∙ meets-same _ _ (days_from r s) year-entry
  meets-days false =
      nth-place (x.monthday - 1) x.monthdays (omega (arith, f.monthday_low, f.monthday_high)) (omega (arith, f.monthdays))
      ∙ meets-same _ _ (days_from r s) month-entry

  pub stays_same : stays_by row (counts_in_year r) x ≡ stays r s x
  unfolding stays_by stays month_by date_by meets_month meets_month_day
  stays_same =
      rw (m.months x.month (omega (arith, f.month_high)), m.dates x.monthday x.monthdays f.monthday_low f.monthday_high f.monthdays, meets-days (counts_in_year r))
      (chain (meets (meets_month x) (months_from r s)) (meets (meets_month_day x) (month_days_from r s)) (meets (meets_day (counts_in_year r) x) (days_from r s)))
