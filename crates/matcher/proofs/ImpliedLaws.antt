-- The by-lists of a rule that was read, with the values of the start that it implies, as the code tells them apart.
use Rattle.std.specs.Prelude.{if◌then◌else◌}
use Prim.Native.Nat.{ℕ, zero, suc, ◌<◌, ◌≤◌}
use mathlib.Core.Bool.{Bool, true, false, false≢true}
use mathlib.Core.List.{List, [], ◌∷◌}
use mathlib.Core.Option.{none}
use mathlib.Core.Path.{◌≡◌, refl, sym, ◌∙◌}
use native.Mathlib.Omega.{arith}
use lib.Dec.{eqb}
use lib.IntN.{ℤ, pos}
use lib.ListN.{length, take}
use borrow.Author.Tests.{eq-eqb, ne_eqb}
use Rattle.rule.specs.declared.Frequency.{Frequency}
use Rattle.rule.specs.declared.Frequency.TheVariants.{Daily, Weekly, Monthly, Yearly}
use Rattle.rule.specs.declared.Day.{Day}
use Rattle.rule.specs.declared.Rule.{Rule}
use Rattle.rule.specs.Lists.{absent, or_else}
use Rattle.rule.specs.Implied.{implied_day, implied_month_day, implied_month, days_from, month_days_from, months_from}
use Rattle.rule.specs.Inner.Read.{ndays, written, Sized}
use Rattle.matcher.specs.Inner.Rows.{implies_day, implies_date, implies_month}

absent-take : {A : Type 0} (n : ℕ) (l : List A) → n ≤ length l → absent (take n l) ≡ eqb n 0
unfolding absent
absent-take zero l h = refl
absent-take (suc n) [] h = absurd (omega arith)
absent-take (suc n) (a ∷ l) h = sym (ne_eqb (suc n) 0 (omega arith))

absent-ndays : (n : ℕ) (ws : List ℕ) (zs : List ℤ) → n ≤ length ws → n ≤ length zs → absent (ndays (take n ws) (take n zs)) ≡ eqb n 0
unfolding absent ndays
absent-ndays zero ws zs h k = refl
absent-ndays (suc n) [] zs h k = absurd (omega arith)
absent-ndays (suc n) (w ∷ ws) [] h k = absurd (omega arith)
absent-ndays (suc n) (w ∷ ws) (z ∷ zs) h k = sym (ne_eqb (suc n) 0 (omega arith))

or-else-written : {A : Type 0} (l m : List A) → absent l ≡ false → or_else l m ≡ l
unfolding absent or_else
or-else-written [] m e = absurd (false≢true (sym e))
or-else-written (a ∷ l) m e = refl

or-else-implied : {A : Type 0} (l m : List A) → absent l ≡ true → or_else l m ≡ m
unfolding absent or_else
or-else-implied [] m e = refl
or-else-implied (a ∷ l) m e = absurd (false≢true e)

implied-day : (f : Frequency) (s : Day) (b : Bool) → implies_day f ≡ b → implied_day f s ≡ (if b then record { day = s.weekday; nth_of_period = none } ∷ [] else [])
unfolding implied_day implies_day
implied-day Daily s b e = rw (← e)
implied-day Weekly s b e = rw (← e)
implied-day Monthly s b e = rw (← e)
implied-day Yearly s b e = rw (← e)

implied-date : (f : Frequency) (no_day : Bool) (s : Day) (b : Bool) → implies_date f no_day ≡ b → implied_month_day f no_day s ≡ (if b then pos s.monthday ∷ [] else [])
unfolding implied_month_day implies_date
implied-date Daily no_day s b e = rw (← e)
implied-date Weekly no_day s b e = rw (← e)
implied-date Monthly no_day s b e = rw (← e)
implied-date Yearly no_day s b e = rw (← e)

implied-month : (f : Frequency) (no_day no_date : Bool) (s : Day) (b : Bool) → implies_month f no_day no_date ≡ b → implied_month f no_day no_date s ≡ (if b then s.month ∷ [] else [])
unfolding implied_month implies_month
implied-month Daily no_day no_date s b e = rw (← e)
implied-month Weekly no_day no_date s b e = rw (← e)
implied-month Monthly no_day no_date s b e = rw (← e)
implied-month Yearly no_day true s b e = rw (← e)
implied-month Yearly no_day false s b e = rw (← e)

module _ (r : Rule) (s : Day) (z : Sized r) where
  no-days : absent (written r).by_day ≡ eqb r.days 0
  unfolding written
  no-days = absent-ndays r.days r.weekdays r.nths z.weekdays z.nths

  no-dates : absent (written r).by_month_day ≡ eqb r.datecount 0
  unfolding written
  no-dates = absent-take r.datecount r.dates z.dates

  pub no-months : absent (written r).by_month ≡ eqb r.monthcount 0
  unfolding written
  no-months = absent-take r.monthcount r.months z.months

  pub no-positions : absent (written r).by_set_position ≡ eqb r.positioncount 0
  unfolding written
  no-positions = absent-take r.positioncount r.positions z.positions

  pub months-written : 0 < r.monthcount → months_from (written r) s ≡ take r.monthcount r.months
  unfolding months_from written
  months-written h = or-else-written _ _ (no-months ∙ ne_eqb r.monthcount 0 (omega arith))

  pub months-implied : (b : Bool) → r.monthcount ≤ 0 → b ≡ implies_month r.frequency (eqb r.days 0) (eqb r.datecount 0)
      → months_from (written r) s ≡ (if b then s.month ∷ [] else [])
  unfolding months_from written
  months-implied b h e =
      or-else-implied _ _ (no-months ∙ eq-eqb r.monthcount 0 (omega arith))
      ∙ rw (no-days, no-dates) (implied-month r.frequency (eqb r.days 0) (eqb r.datecount 0) s b (sym e))

  pub dates-written : 0 < r.datecount → month_days_from (written r) s ≡ take r.datecount r.dates
  unfolding month_days_from written
  dates-written h = or-else-written _ _ (no-dates ∙ ne_eqb r.datecount 0 (omega arith))

  pub dates-implied : (b : Bool) → r.datecount ≤ 0 → b ≡ implies_date r.frequency (eqb r.days 0)
      → month_days_from (written r) s ≡ (if b then pos s.monthday ∷ [] else [])
  unfolding month_days_from written
  dates-implied b h e =
      or-else-implied _ _ (no-dates ∙ eq-eqb r.datecount 0 (omega arith))
      ∙ rw no-days (implied-date r.frequency (eqb r.days 0) s b (sym e))

  pub days-written : 0 < r.days → days_from (written r) s ≡ ndays (take r.days r.weekdays) (take r.days r.nths)
  unfolding days_from written
  days-written h = or-else-written _ _ (no-days ∙ ne_eqb r.days 0 (omega arith))

  pub days-implied : (b : Bool) → r.days ≤ 0 → b ≡ implies_day r.frequency
      → days_from (written r) s ≡ (if b then record { day = s.weekday; nth_of_period = none } ∷ [] else [])
  unfolding days_from written
  days-implied b h e =
      or-else-implied _ _ (no-days ∙ eq-eqb r.days 0 (omega arith)) ∙ implied-day r.frequency s b (sym e)
