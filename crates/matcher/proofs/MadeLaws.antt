-- A row that was marked step by step is the row of the rule.
use Rattle.std.specs.Prelude.{if◌then◌else◌}
use Prim.Native.Nat.{ℕ, zero, suc, ◌<◌, ◌≤◌}
use mathlib.Core.Bool.{Bool, true, false}
use mathlib.Core.List.{List, [], ◌∷◌}
use mathlib.Core.Path.{◌≡◌, refl, sym, ap, ◌∙◌}
use native.Mathlib.Omega.{arith}
use lib.Dec.{eqb}
use lib.IntN.{ℤ}
use lib.ListN.{length, take}
use Rattle.rule.specs.declared.Day.{Day}
use Rattle.rule.specs.declared.Rule.{Rule}
use Rattle.rule.specs.Implied.{days_from, month_days_from, months_from}
use Rattle.rule.specs.Inner.Read.{ndays, written, Sized}
use Rattle.matcher.specs.Inner.Layout.{dates_at, dates_back, weekdays_at, positions_at, positions_back}
use Rattle.matcher.specs.Inner.Rows.{implies_day, implies_date, implies_month}
use Rattle.matcher.specs.Inner.Marks.{mark_one, mark_each, mark_place, mark_places, mark_nth, mark_days, mark_all, mark_months, mark_dates, mark_weekdays, mark_row}
use Rattle.matcher.proofs.ImpliedLaws.{months-written, months-implied, dates-written, dates-implied, days-written, days-implied}

months-list : (fl : List Bool) (n : ℕ) (l : List ℕ) → 0 < n → n ≤ length l → mark_months fl (take n l) ≡ mark_each fl 0 dates_at (take n l)
unfolding mark_months
months-list fl zero l h k = absurd (omega arith)
months-list fl (suc n) [] h k = absurd (omega arith)
months-list fl (suc n) (a ∷ l) h k = refl

dates-list : (fl : List Bool) (n : ℕ) (l : List ℤ) → 0 < n → n ≤ length l → mark_dates fl (take n l) ≡ mark_places fl dates_at dates_back 32 (take n l)
unfolding mark_dates
dates-list fl zero l h k = absurd (omega arith)
dates-list fl (suc n) [] h k = absurd (omega arith)
dates-list fl (suc n) (a ∷ l) h k = refl

days-list : (fl : List Bool) (n : ℕ) (ws : List ℕ) (zs : List ℤ) → 0 < n → n ≤ length ws → n ≤ length zs
    → mark_weekdays fl (ndays (take n ws) (take n zs)) ≡ mark_days fl (ndays (take n ws) (take n zs))
unfolding mark_weekdays ndays
days-list fl zero ws zs h k m = absurd (omega arith)
days-list fl (suc n) [] zs h k m = absurd (omega arith)
days-list fl (suc n) (w ∷ ws) [] h k m = absurd (omega arith)
days-list fl (suc n) (w ∷ ws) (z ∷ zs) h k m = refl

module _ (r : Rule) (s : Day) (z : Sized r) (fl next : List Bool) where
  pub months-made : 0 < r.monthcount → next ≡ mark_each fl 0 dates_at (take r.monthcount r.months) → next ≡ mark_months fl (months_from (written r) s)
  months-made h e =
      e ∙ sym (ap (mark_months fl) (months-written r s z h) ∙ months-list fl r.monthcount r.months h z.months)

  pub month-made : (b : Bool) → r.monthcount ≤ 0 → b ≡ implies_month r.frequency (eqb r.days 0) (eqb r.datecount 0)
      → next ≡ (if b then mark_one fl 0 dates_at s.month else mark_all fl 0 dates_at) → next ≡ mark_months fl (months_from (written r) s)
  unfolding mark_months mark_each
  month-made true h f e = e ∙ sym (ap (mark_months fl) (months-implied r s z true h f))
  month-made false h f e = e ∙ sym (ap (mark_months fl) (months-implied r s z false h f))

  pub dates-made : 0 < r.datecount → next ≡ mark_places fl dates_at dates_back 32 (take r.datecount r.dates) → next ≡ mark_dates fl (month_days_from (written r) s)
  dates-made h e =
      e ∙ sym (ap (mark_dates fl) (dates-written r s z h) ∙ dates-list fl r.datecount r.dates h z.dates)

  pub date-made : (first : List Bool) → r.datecount ≤ 0 → true ≡ implies_date r.frequency (eqb r.days 0)
      → first ≡ mark_one fl dates_at 32 s.monthday → next ≡ mark_one first dates_back 32 0 → next ≡ mark_dates fl (month_days_from (written r) s)
  unfolding mark_dates mark_places mark_place
  date-made first h f e g = g ∙ (ap (λ (l : List Bool). mark_one l dates_back 32 0) e ∙ sym (ap (mark_dates fl) (dates-implied r s z true h f)))

  pub dates-absent : r.datecount ≤ 0 → false ≡ implies_date r.frequency (eqb r.days 0)
      → next ≡ mark_all fl dates_at 32 → next ≡ mark_dates fl (month_days_from (written r) s)
  unfolding mark_dates
  dates-absent h f e = e ∙ sym (ap (mark_dates fl) (dates-implied r s z false h f))

  pub days-made : 0 < r.days → next ≡ mark_days fl (ndays (take r.days r.weekdays) (take r.days r.nths)) → next ≡ mark_weekdays fl (days_from (written r) s)
  days-made h e =
      e ∙ sym (ap (mark_weekdays fl) (days-written r s z h) ∙ days-list fl r.days r.weekdays r.nths h z.weekdays z.nths)

  pub day-made : (b : Bool) → r.days ≤ 0 → b ≡ implies_day r.frequency
      → next ≡ (if b then mark_one fl weekdays_at 7 s.weekday else mark_all fl weekdays_at 7) → next ≡ mark_weekdays fl (days_from (written r) s)
  unfolding mark_weekdays mark_days mark_nth
  day-made true h f e = e ∙ sym (ap (mark_weekdays fl) (days-implied r s z true h f))
  day-made false h f e = e ∙ sym (ap (mark_weekdays fl) (days-implied r s z false h f))

pub row_made : (r : Rule) (s : Day) (fl a b c d : List Bool) → a ≡ mark_months fl (months_from (written r) s) → b ≡ mark_dates a (month_days_from (written r) s)
    → c ≡ mark_weekdays b (days_from (written r) s) → d ≡ mark_places c positions_at positions_back 367 (take r.positioncount r.positions) → d ≡ mark_row fl (written r) s
unfolding mark_row written
row_made r s fl a b c d ea eb ec ed = ed ∙ rw (ec, eb, ea)
