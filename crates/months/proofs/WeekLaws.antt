-- The week written out: a month of a rule that asks for no weekday by its place has its days from it.
use Rattle.std.specs.Prelude.{if◌then◌else◌}
use Prim.Native.Nat.{ℕ, ◌+◌, ◌-◌, ◌*◌, ◌/◌, ◌%◌, ◌<◌, ◌≤◌}
use mathlib.Core.Bool.{Bool, true, false, ◌&&◌, ◌||◌}
use mathlib.Core.List.{List}
use mathlib.Core.Path.{◌≡◌, refl, ap, ◌∙◌, subst}
use native.Mathlib.Omega.{arith}
use lib.ListN.{get_or}
use Rattle.rule.specs.Lists.{count_in}
use Rattle.rule.proofs.Bools.{by}
use Rattle.rule.proofs.Counting.{count-place}
use Rattle.matcher.specs.Inner.Flags.{named, nth_by}
use Rattle.matcher.specs.Inner.Layout.{dates_at, dates_back, weekdays_at, nths_at, nths_back, nths_size, positions_at}
use Rattle.months.specs.Inner.Kinds.{stays_in}
use Rattle.months.specs.Inner.Layout.{kinds_size}
use Rattle.months.specs.Inner.Week.{week_at, NoPlaces}
use Rattle.months.specs.Inner.Rows.{answer_at, Wrote, Writing}

-- ---- no weekday is asked for by its place

pub places-none : (fl : List Bool) → count_in (answer_at fl nths_at) 0 nths_size ≡ 0 → NoPlaces fl
unfolding answer_at
places-none fl e =
    record {
      none = λ j h.
          by (get_or fl (nths_at + j) false)
          (λ yes-it-is.
          let here : get_or fl (nths_at + (0 + j)) false ≡ true = ap (λ (n : ℕ). get_or fl (nths_at + n) false) (omega arith) ∙ yes-it-is in
          absurd (omega (arith, count-place (answer_at fl nths_at) 0 j nths_size here h, e)))
          (λ no-it-is-not. no-it-is-not);
    }

module _ (fl : List Bool) (no-places : NoPlaces fl) where
  none-at : (j : ℕ) → nths_at ≤ j → j < positions_at → get_or fl j false ≡ false
  none-at j low high =
      let there : nths_at + (j - nths_at) ≡ j = omega arith in
      subst (λ (n : ℕ). get_or fl n false ≡ false) there (no-places.none (j - nths_at) (omega arith))

  nth-none : (w k days : ℕ) → w < 7 → k < days → days ≤ 31 → nth_by fl w k days ≡ false
  unfolding nth_by named
  nth-none w k days week less few =
      rw (
        none-at (nths_at + 54 * w + (k / 7 + 1)) (omega arith) (omega arith),
        none-at (nths_back + 54 * w + (k / 7 + 1 + (days - (k + 1)) / 7 + 1 - (k / 7 + 1))) (omega arith) (omega arith),
      )

-- ---- a day of the month

date-is : (fl : List Bool) (days k : ℕ) → k < days → (if get_or fl (dates_at + 1 + k) false then true else get_or fl (dates_back + days - k) false) ≡ named fl dates_at dates_back (k + 1) days
unfolding named
date-is fl days k h =
    let on : dates_at + 1 + k ≡ dates_at + (k + 1) = omega arith in
    let back : dates_back + days - k ≡ dates_back + (days + 1 - (k + 1)) = omega arith in
    rw (on, back)

or-is : (a b : Bool) → (a || b) ≡ (if a then true else b)
or-is true b = refl
or-is false b = refl

and-is : (a b : Bool) → (a && b) ≡ (if a then b else false)
and-is true b = refl
and-is false b = refl

module _ (fl : List Bool) (weekday days at k : ℕ) (before rows : List Bool) (p : ℕ → Bool) (no-places : NoPlaces fl) (w : Writing fl weekday days before at)
    (wrote : Wrote p before at k rows) (h : k < days) where
  week-here : get_or rows (kinds_size + weekday + k) false ≡ get_or fl (weekdays_at + (weekday + k) % 7) false
  unfolding week_at
  week-here =
      wrote.high (kinds_size + weekday + k) (omega (arith, w.within))
      ∙ (ap (λ (n : ℕ). get_or before n false) (omega arith) ∙ w.week.days (weekday + k) (omega (arith, w.kind.week, w.kind.high)))

  day-is : get_or fl (weekdays_at + (weekday + k) % 7) false
      ≡ (if get_or fl (weekdays_at + (weekday + k) % 7) false then true else nth_by fl ((weekday + k) % 7) k days)
  day-is =
      rw (nth-none fl no-places ((weekday + k) % 7) k days (omega arith) h w.kind.high) (go (get_or fl (weekdays_at + (weekday + k) % 7) false))
    where
      go : (b : Bool) → b ≡ (if b then true else false)
      go true = refl
      go false = refl

  pub plain-is : ((get_or fl (dates_at + 1 + k) false || get_or fl (dates_back + days - k) false) && get_or rows (kinds_size + weekday + k) false) ≡ stays_in fl weekday days k
  unfolding stays_in
  plain-is =
      and-is (get_or fl (dates_at + 1 + k) false || get_or fl (dates_back + days - k) false) (get_or rows (kinds_size + weekday + k) false)
      ∙ (ap (λ (d : Bool). if d then get_or rows (kinds_size + weekday + k) false else false) (or-is (get_or fl (dates_at + 1 + k) false) (get_or fl (dates_back + days - k) false) ∙ date-is fl days k h)
      ∙ ap (λ (d : Bool). if named fl dates_at dates_back (k + 1) days then d else false) (week-here ∙ day-is))
