-- What the code asks of a rule to know which values of the start it implies.
use Rattle.std.specs.Prelude.{if◌then◌else◌, ◌<◌, Bool, true, false, not, ◌≡◌}
use Rattle.rule.specs.declared.Frequency.{Frequency}
use Rattle.rule.specs.declared.Frequency.TheVariants.{Daily, Weekly, Monthly, Yearly}
use Rattle.rule.specs.declared.Day.{Day}
use Rattle.rule.specs.Written.{RecurrenceRule}
use Rattle.rule.specs.Lists.{absent}
use Rattle.rule.specs.Period.{period_of}
use Rattle.rule.specs.Stays.{counts_in_year}
use Rattle.matcher.specs.declared.Terms.{Terms}

unfoldable pub implies_day : Frequency → Bool
implies_day Daily = false
implies_day Weekly = true
implies_day Monthly = false
implies_day Yearly = false

unfoldable pub implies_date : Frequency → Bool → Bool
implies_date Daily no_day = false
implies_date Weekly no_day = false
implies_date Monthly no_day = no_day
implies_date Yearly no_day = no_day

unfoldable pub implies_month : Frequency → Bool → Bool → Bool
implies_month Daily no_day no_month_day = false
implies_month Weekly no_day no_month_day = false
implies_month Monthly no_day no_month_day = false
implies_month Yearly no_day no_month_day = if no_month_day then no_day else true

-- ---- the terms of a rule whose event starts on the day s

unfoldable pub yearly : Frequency → Bool → Bool
yearly Daily no_month = false
yearly Weekly no_month = false
yearly Monthly no_month = false
yearly Yearly no_month = no_month

pub record Termed (r : RecurrenceRule) (s : Day) (t : Terms) : Type 0 where
  pub frequency : t.frequency ≡ r.frequency
  pub interval : t.interval ≡ r.interval
  pub first : t.first ≡ r.first_day_of_week
  pub week : t.first < 7
  pub inyear : t.inyear ≡ counts_in_year r
  pub placed : t.placed ≡ not (absent r.by_set_position)
  pub period : t.period ≡ period_of r.frequency r.first_day_of_week s
