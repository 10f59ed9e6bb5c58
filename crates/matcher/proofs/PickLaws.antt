-- A rule by its terms and its marked row picks the days that the rule picks.
use Rattle.std.specs.Prelude.{if◌then◌else◌}
use Prim.Native.Nat.{ℕ, ◌+◌, ◌-◌, ◌<◌, ◌≤◌}
use mathlib.Core.Bool.{Bool, true, false, false≢true, ◌&&◌}
use mathlib.Core.List.{List, [], ◌∷◌}
use mathlib.Core.Path.{◌≡◌, refl, sym, ap, ◌∙◌}
use native.Mathlib.Omega.{arith}
use lib.Dec.{eqb}
use lib.ListN.{length}
use Rattle.signed.specs.Place.{place_of}
use Rattle.gregorian.specs.Days.{day_count}
use Rattle.rule.specs.declared.Frequency.{Frequency}
use Rattle.rule.specs.declared.Day.{Day}
use Rattle.rule.specs.Day.{day_at}
use Rattle.rule.specs.Written.{RecurrenceRule}
use Rattle.rule.specs.Lists.{any, meets, absent, count_in}
use Rattle.rule.specs.Period.{since_first, days_of, in_step}
use Rattle.rule.specs.Stays.{stays, stays_on, is_place, picked}
use Rattle.rule.specs.Gives.{end_day}
use Rattle.rule.proofs.Bools.{by}
use Rattle.rule.proofs.Counting.{count_same}
use Rattle.rule.proofs.DayLaws.{day-facts}
use Rattle.rule.proofs.PeriodLaws.{day-number}
use Rattle.matcher.specs.declared.Terms.{Terms}
use Rattle.matcher.specs.Inner.Flags.{stays_by}
use Rattle.matcher.specs.Inner.Rows.{Termed}
use Rattle.matcher.specs.Inner.Walk.{Asked, stays_on_by, step_by, placed_by, picks_by, picks_on_by}
use Rattle.matcher.proofs.RowLaws.{Marked, stays_same}
use Rattle.matcher.proofs.WalkLaws.{before, whole, asked-before, asked-within, asked-places}

any-meets : {A : Type 0} (p : A → Bool) (l : List A) → absent l ≡ false → any p l ≡ meets p l
unfolding meets absent
any-meets p [] e = absurd (false≢true (sym e))
any-meets p (a ∷ l) e = refl

absent-meets : {A : Type 0} (p : A → Bool) (l : List A) → absent l ≡ true → meets p l ≡ true
unfolding meets absent
absent-meets p [] e = refl
absent-meets p (a ∷ l) e = absurd (false≢true e)

module _ (r : RecurrenceRule) (s : Day) (t : Terms) (row : List Bool) (e : Termed r s t) (m : Marked r s row) where
  stays-on-same : (j : ℕ) → j < day_count → stays_on_by row t.inyear j ≡ stays_on r s j
  unfolding stays_on_by stays_on
  stays-on-same j h = rw e.inyear (stays_same r s row m (day_at j) (day-facts j h))

  step_same : (x : Day) → step_by t x ≡ in_step r s x
  unfolding step_by in_step
  step_same x = rw (e.frequency, e.interval, e.first, e.period)

  module _ (n : ℕ) (low : 366 ≤ n) (high : n < end_day) where
    asked : Asked t (length row) (day_at n)
    asked =
        record {
          row_length = m.size;
          week = e.week;
          day = ap day_at (sym (day-number n));
          low = rw (day-number n) low;
          high = rw (day-number n) high;
        }

    first : ℕ
    first = (day_at n).number - before t (day_at n)

    runs_same : (k : ℕ) → k ≤ whole t (day_at n) → count_in (stays_on_by row t.inyear) first k ≡ count_in (stays_on r s) first k
    unfolding first
    runs_same k h =
        count_same (stays_on_by row t.inyear) (stays_on r s) first k
        (λ j a b. stays-on-same j (omega (arith, asked-within t (length row) (day_at n) asked)))

    -- the place among the days that stay, by the lists
    ruled : Frequency → ℕ → Bool
    ruled f w =
        meets
        (is_place (count_in (stays_on r s) ((day_at n).number - since_first f w (day_at n)) (days_of f (day_at n)))
        (count_in (stays_on r s) ((day_at n).number - since_first f w (day_at n)) (since_first f w (day_at n)) + 1))
        r.by_set_position

    placed-ruled : stays_by row t.inyear (day_at n) ≡ true → absent r.by_set_position ≡ false → placed_by t row (day_at n) ≡ ruled t.frequency t.first
    unfolding placed_by ruled first is_place
    placed-ruled here some-positions =
        let p = asked-places t (length row) (day_at n) asked row _ _ here refl refl in
        let less : before t (day_at n) ≤ whole t (day_at n) = omega (arith, asked-before t (length row) (day_at n) asked) in
        let place = runs_same (before t (day_at n)) less in
        let count = runs_same (whole t (day_at n)) (omega arith) in
        m.positions _ _ p.low p.high p.small
        ∙ (ap (λ (k : ℕ). any (λ z. eqb (place_of z (count_in (stays_on_by row t.inyear) first (whole t (day_at n)))) (k + 1)) r.by_set_position) place
        ∙ (ap (λ (k : ℕ). any (λ z. eqb (place_of z k) (count_in (stays_on r s) first (before t (day_at n)) + 1)) r.by_set_position) count
        ∙ any-meets _ r.by_set_position some-positions))

    placed_same : stays_by row t.inyear (day_at n) ≡ true → absent r.by_set_position ≡ false → placed_by t row (day_at n) ≡ picked r s (day_at n)
    unfolding picked ruled
    placed_same here some-positions =
        placed-ruled here some-positions ∙ (ap (λ (f : Frequency). ruled f t.first) e.frequency ∙ ap (λ (w : ℕ). ruled r.frequency w) e.first)

    not-placed : absent r.by_set_position ≡ true → true ≡ picked r s (day_at n)
    unfolding picked
    not-placed none = sym (absent-meets _ r.by_set_position none)

    pub picks-same : picks_on_by t row n ≡ (in_step r s (day_at n) && (stays r s (day_at n) && picked r s (day_at n)))
    unfolding picks_on_by picks_by
    picks-same =
        by (stays_by row t.inyear (day_at n))
        (λ here.
        rw (here, step_same (day_at n), sym (stays_here here))
        (by (absent r.by_set_position)
        (λ none. rw (e.placed, none, sym (not-placed none)) (if-and (in_step r s (day_at n)) true))
        (λ some-positions. rw (placed_same here some-positions, e.placed, some-positions) (if-and (in_step r s (day_at n)) (picked r s (day_at n))))))
        (λ here. rw (here, sym (stays_here here)) (never (in_step r s (day_at n))))
      where
        if-and : (a b : Bool) → (if a then b else false) ≡ (a && (true && b))
        if-and true b = refl
        if-and false b = refl

        never : (a : Bool) → false ≡ (a && false)
        never true = refl
        never false = refl

        stays_here : {b : Bool} → stays_by row t.inyear (day_at n) ≡ b → b ≡ stays r s (day_at n)
        stays_here h = sym h ∙ ap (λ (y : Bool). stays_by row y (day_at n)) e.inyear ∙ stays_same r s row m (day_at n) (day-facts n (omega arith))
