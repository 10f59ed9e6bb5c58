-- The set of an event (01, "Rules of recurrence"): "the start and all rules' dates, each once, less the excluded rules' dates, less
-- overrides with `excluded` true, with every other override's date added." Date-times are seconds from 1600-01-01T00:00:00.
use Rattle.std.specs.Prelude.{ℕ, Bool, true, false, not, ◌&&◌, ◌||◌, List, eqb}
use Rattle.rule.specs.Written.{RecurrenceRule}
use Rattle.rule.specs.Lists.{any}
use Rattle.rule.specs.Gives.{gives}

-- An override by its name, a date-time, and whether its patch is `excluded` true.
pub record Override : Type 0 where
  pub id : ℕ
  pub excluded : Bool

pub record Event : Type 0 where
  pub start : ℕ
  pub rules : List RecurrenceRule
  pub excluded_rules : List RecurrenceRule
  pub overrides : List Override

unfoldable pub override_excludes : Event → ℕ → Bool
override_excludes e x = any (λ o. o.excluded && eqb o.id x) e.overrides

unfoldable pub override_names : Event → ℕ → Bool
override_names e x = any (λ o. eqb o.id x) e.overrides

unfoldable pub is_start : Event → ℕ → Bool
is_start e x = eqb x e.start

-- Some rule of a list gives x: both lists of an event are read so.
unfoldable pub some_gives : Bool → List RecurrenceRule → ℕ → ℕ → Bool
some_gives excluded rules start x = any (λ r. gives excluded r start x) rules

unfoldable pub rule_gives : Event → ℕ → Bool
rule_gives e x = some_gives false e.rules e.start x

unfoldable pub excluded_rule_gives : Event → ℕ → Bool
excluded_rule_gives e x = some_gives true e.excluded_rules e.start x

-- No override excludes it, and either an override names it, or it is the start or a rule gives it, and no excluded rule does.
unfoldable pub in_set : Event → ℕ → Bool
in_set e x =
    not (override_excludes e x)
    && (override_names e x || ((is_start e x || rule_gives e x) && not (excluded_rule_gives e x)))
