-- The terms that are read off a rule are the rule's.
use Prim.Native.Nat.{ℕ}
use mathlib.Core.Bool.{Bool, not}
use mathlib.Core.Path.{◌≡◌, refl, ◌∙◌}
use native.Mathlib.Omega.{arith}
use lib.Dec.{eqb, ltb}
use borrow.Author.Tests.{ltb-true, ltb-false, eq-eqb, ne_eqb}
use Rattle.rule.specs.declared.Frequency.{Frequency}
use Rattle.rule.specs.declared.Day.{Day}
use Rattle.rule.specs.declared.Rule.{Rule}
use Rattle.rule.specs.Lists.{absent}
use Rattle.rule.specs.Period.{period_of}
use Rattle.rule.specs.Stays.{counts_in_year}
use Rattle.rule.specs.Inner.Read.{written, Sized}
use Rattle.rule.proofs.Bools.{by}
use Rattle.matcher.specs.Inner.Rows.{yearly, Termed}
use Rattle.matcher.proofs.ImpliedLaws.{no-months, no-positions}

module _ (r : Rule) (s : Day) (z : Sized r) where
  in-year : yearly r.frequency (eqb r.monthcount 0) ≡ counts_in_year (written r)
  unfolding yearly counts_in_year written
  in-year = rw (no-months r s z) (go r.frequency (eqb r.monthcount 0))
    where
      go : (f : Frequency) (b : Bool) → yearly f b ≡ yearly f b
      go f b = refl

  has-positions : ltb 0 r.positioncount ≡ not (absent (written r).by_set_position)
  has-positions =
      rw (no-positions r s z)
      (by (ltb 0 r.positioncount)
      (λ e. rw (e, ne_eqb r.positioncount 0 (omega (arith, ltb-true 0 r.positioncount e))))
      (λ e. rw (e, eq-eqb r.positioncount 0 (omega (arith, ltb-false 0 r.positioncount e)))))

  pub terms-read : (inyear : Bool) (period : ℕ) → inyear ≡ yearly r.frequency (eqb r.monthcount 0) → period ≡ period_of r.frequency r.first s
      → Termed (written r) s (record { frequency = r.frequency; interval = r.interval; first = r.first; inyear = inyear; placed = ltb 0 r.positioncount; period = period })
  unfolding written
  terms-read inyear period e f =
      record {
        frequency = refl;
        interval = refl;
        first = refl;
        week = z.week;
        inyear = e ∙ in-year;
        placed = has-positions;
        period = f;
      }
