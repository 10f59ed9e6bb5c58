-- A rule picks no day of a period that has too few for its set positions.
use Rattle.std.specs.Prelude.{if◌then◌else◌}
use Prim.Native.Nat.{ℕ, ◌+◌, ◌-◌, ◌<◌, ◌≤◌}
use mathlib.Core.Bool.{Bool, true, false, false≢true}
use mathlib.Core.List.{List}
use mathlib.Core.Path.{◌≡◌, refl, sym, ap, ◌∙◌, subst}
use native.Mathlib.Omega.{arith}
use lib.Dec.{ltb}
use lib.ListN.{length, get_or}
use borrow.Author.Tests.{ltb-true, ltb-false}
use Rattle.gregorian.specs.Days.{day_count}
use Rattle.rule.specs.declared.Frequency.{Frequency}
use Rattle.rule.specs.declared.Frequency.TheVariants.{Daily, Weekly, Monthly, Yearly}
use Rattle.rule.specs.declared.Day.{Day}
use Rattle.rule.specs.Day.{day_at}
use Rattle.rule.specs.Lists.{count_in}
use Rattle.rule.specs.Period.{days_of}
use Rattle.rule.specs.Gives.{end_day}
use Rattle.rule.proofs.Bools.{by}
use Rattle.rule.proofs.Counting.{count_most}
use Rattle.rule.proofs.DayLaws.{day-facts}
use Rattle.rule.proofs.PeriodLaws.{day-number}
use Rattle.matcher.specs.declared.Terms.{Terms}
use Rattle.matcher.specs.Inner.Flags.{named, stays_by}
use Rattle.matcher.specs.Inner.Layout.{positions_at, positions_back}
use Rattle.matcher.specs.Inner.Walk.{Asked, stays_on_by, step_by, placed_by, picks_by, picks_on_by}
use Rattle.matcher.proofs.WalkLaws.{before, whole, asked-early, asked-places}
use Rattle.track.specs.Inner.Skips.{Between}
use Rattle.track.specs.Inner.Places.{most_days, Unset, InPeriod}
use Rattle.track.specs.declared.Cursor.{Cursor}
use Rattle.track.specs.Inner.Steps.{staying, Holding}
use Rattle.track.proofs.StepLaws.{held-asked, held-total}
use Rattle.track.proofs.SpanLaws.{Later, in-period}

most-is : (f : Frequency) (n : ℕ) → n < day_count → days_of f (day_at n) ≤ most_days f
unfolding days_of most_days
most-is Daily n h = omega arith
most-is Weekly n h = omega arith
most-is Monthly n h = (day-facts n h).monthdays
most-is Yearly n h = (day-facts n h).yeardays

pub scan-starts : (row : List Bool) → Unset row 1
scan-starts row =
    record { low = omega arith; on = λ j low high. absurd (omega arith); back = λ j low high. absurd (omega arith) }

pub scan-goes-on : (row : List Bool) (k : ℕ) → Unset row k → get_or row (positions_at + k) false ≡ false → get_or row (positions_back + k) false ≡ false
    → Unset row (k + 1)
scan-goes-on row k s e f =
    record { low = omega arith; on = one_more positions_at s.on e; back = one_more positions_back s.back f }
  where
    one_more : (base : ℕ) → ((j : ℕ) → 1 ≤ j → j < k → get_or row (base + j) false ≡ false) → get_or row (base + k) false ≡ false
        → (j : ℕ) → 1 ≤ j → j < k + 1 → get_or row (base + j) false ≡ false
    one_more base before here j low high =
        by (ltb j k) (λ g. before j low (ltb-true j k g))
        (λ g. let same : k ≡ j = omega (arith, ltb-false j k g) in subst (λ (i : ℕ). get_or row (base + i) false ≡ false) same here)

pub most-few : (f : Frequency) → most_days f ≤ 366
unfolding most_days
most-few Daily = omega arith
most-few Weekly = omega arith
most-few Monthly = omega arith
most-few Yearly = omega arith

-- the days of its period that stay
abbrev stays_in : Terms → List Bool → Day → ℕ
stays_in t row x = count_in (stays_on_by row t.inyear) (x.number - before t x) (whole t x)

module _ (t : Terms) (row : List Bool) (k : ℕ) (placed : t.placed ≡ true) (u : Unset row k) where
  module _ (n : ℕ) (a : Asked t (length row) (day_at n)) (few : stays_in t row (day_at n) < k) where
    not-placed : stays_by row t.inyear (day_at n) ≡ true → placed_by t row (day_at n) ≡ false
    unfolding placed_by named
    not-placed here =
        let p = asked-places t (length row) (day_at n) a row _ _ here refl refl in
        let place = count_in (stays_on_by row t.inyear) ((day_at n).number - before t (day_at n)) (before t (day_at n)) + 1 in
        rw (
          u.on place p.low (omega (arith, p.high, few)),
          u.back (stays_in t row (day_at n) + 1 - place) (omega (arith, p.high)) (omega (arith, p.low, p.high, few)),
        )

    never-picked : picks_on_by t row n ≡ false
    unfolding picks_on_by picks_by
    never-picked =
        by (stays_by row t.inyear (day_at n))
        (λ here. rw here (go (step_by t (day_at n)) t.placed (placed_by t row (day_at n)) placed (not-placed here)))
        (λ here. rw here)
      where
        go : (a b d : Bool) → b ≡ true → d ≡ false → (if a then (if b then d else true) else false) ≡ false
        go true true d e f = f
        go true false d e f = absurd (false≢true e)
        go false b d e f = refl

  module _ (x : Day) (a : Asked t (length row) x) where
    later-asked : (j : ℕ) → x.number < j → j < end_day → Asked t (length row) (day_at j)
    later-asked j low high =
        record {
          row_length = a.row_length;
          week = a.week;
          day = ap day_at (sym (day-number j));
          low = omega (arith, a.low, day-number j);
          high = omega (arith, day-number j);
        }

    -- no period has days enough
    pub unplaced-between : most_days t.frequency < k → Between (picks_on_by t row) x.number (end_day - x.number)
    unplaced-between over =
        record {
          none = λ j low high.
              never-picked j (later-asked j low (omega arith))
              (omega (
                arith,
                over,
                count_most (stays_on_by row t.inyear) ((day_at j).number - before t (day_at j)) (whole t (day_at j)),
                most-is t.frequency j (omega (arith, a.high)),
              ));
          more = omega (arith, a.high);
          few = omega arith;
        }

    -- the own period has not
    short-between : (total n : ℕ) → total ≡ stays_in t row x → total < k → InPeriod t x n → Between (picks_on_by t row) x.number n
    short-between total n is few p =
        record {
          none = λ j low high.
              let there : x.number + (j - x.number) ≡ j = omega arith in
              let q = subst (λ (i : ℕ). Later t.frequency t.first x (j - x.number) (day_at i)) there
              (in-period t.frequency t.first x a.day a.week (j - x.number) (omega (arith, p.known)) (omega (arith, p.within)))
              in
              let first : (day_at j).number - before t (day_at j) ≡ x.number - before t x =
              omega (arith, q.since, day-number j, asked-early t (length row) x a) in
              let same : stays_in t row (day_at j) ≡ stays_in t row x =
              ap (λ (i : ℕ). count_in (stays_on_by row t.inyear) i (whole t (day_at j))) first
              ∙ ap (count_in (stays_on_by row t.inyear) (x.number - before t x)) q.whole
              in
              never-picked j (later-asked j low (omega (arith, p.known))) (omega (arith, same, is, few));
          more = p.more;
          few = omega (arith, p.known);
        }

  pub held-short : (c : Cursor) → Holding t row (length row) c → (n : ℕ) → c.total < k → InPeriod t c.day n → Between (picks_on_by t row) c.day.number n
  unfolding staying
  held-short c hold n few p = short-between c.day (held-asked t row c hold) c.total n (held-total t row c hold placed) few p
