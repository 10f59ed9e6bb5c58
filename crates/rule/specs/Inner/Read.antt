-- The rule that the code's struct stands for.
use Rattle.std.specs.Prelude.{if◌then◌else◌, ℕ, ◌<◌, ◌≤◌, List, [], ◌∷◌, ltb, ℤ, length, take}
use Rattle.std.proofs.Math.Option.{Option, none, some}
use Rattle.signed.specs.Parts.{pos_part, neg_part}
use Rattle.rule.specs.declared.End.{End}
use Rattle.rule.specs.declared.End.TheVariants.{Never, Until, Count}
use Rattle.rule.specs.declared.Rule.{Rule}
use Rattle.rule.specs.Written.{NDay, RecurrenceRule}

-- 0 stands for no `nthOfPeriod`, which is never 0.
unfoldable pub nth_from : ℤ → Option ℤ
nth_from z = if ltb 0 (pos_part z) then some z else if ltb 0 (neg_part z) then some z else none

unfoldable pub ndays : List ℕ → List ℤ → List NDay
ndays [] zs = []
ndays (w ∷ ws) [] = []
ndays (w ∷ ws) (z ∷ zs) = record { day = w; nth_of_period = nth_from z } ∷ ndays ws zs

unfoldable pub until_from : End → Option ℕ
until_from Never = none
until_from (Until t) = some t
until_from (Count n) = none

unfoldable pub count_from : End → Option ℕ
count_from Never = none
count_from (Until t) = none
count_from (Count n) = some n

unfoldable pub written : Rule → RecurrenceRule
written r =
    record {
      frequency = r.frequency;
      interval = r.interval;
      first_day_of_week = r.first;
      by_day = ndays (take r.days r.weekdays) (take r.days r.nths);
      by_month_day = take r.datecount r.dates;
      by_month = take r.monthcount r.months;
      by_set_position = take r.positioncount r.positions;
      until = until_from r.end;
      count = count_from r.end;
    }

-- The counts lie within the arrays, and the first day of the week is one.
pub record Sized (r : Rule) : Type 0 where
  pub weekdays : r.days ≤ length r.weekdays
  pub nths : r.days ≤ length r.nths
  pub dates : r.datecount ≤ length r.dates
  pub months : r.monthcount ≤ length r.months
  pub positions : r.positioncount ≤ length r.positions
  pub week : r.first < 7
