-- Demand 2: when a date-time is an occurrence of an event.
use Rattle.std.specs.Prelude.{ℕ, true, false, ◌⊎◌, ◌≡◌}
use Rattle.recurrence.specs.Event.{Event, override_excludes, override_names, rule_gives, excluded_rule_gives}

-- "no override excludes it and either an override names it, or it is the start or a rule gives it, and no excluded rule does".
pub record Occurs (e : Event) (x : ℕ) : Type 0 where
  pub no_override_excludes : override_excludes e x ≡ false
  pub either : (override_names e x ≡ true) ⊎ (((x ≡ e.start) ⊎ (rule_gives e x ≡ true)) × (excluded_rule_gives e x ≡ false))
