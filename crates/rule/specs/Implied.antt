-- 01, 3: values of the start that are added before a rule is read, as by-lists.
use Rattle.std.specs.Prelude.{if◌then◌else◌, ℕ, Bool, not, ◌||◌, List, [], ◌∷◌, ℤ, pos}
use Rattle.std.proofs.Math.Option.{none}
use Rattle.rule.specs.declared.Frequency.{Frequency}
use Rattle.rule.specs.declared.Frequency.TheVariants.{Daily, Weekly, Monthly, Yearly}
use Rattle.rule.specs.declared.Day.{Day}
use Rattle.rule.specs.Written.{NDay, RecurrenceRule}
use Rattle.rule.specs.Lists.{absent, or_else}

-- "weekly without `byDay`, the start's weekday."
unfoldable pub implied_day : Frequency → Day → List NDay
implied_day Daily s = []
implied_day Weekly s = record { day = s.weekday; nth_of_period = none } ∷ []
implied_day Monthly s = []
implied_day Yearly s = []

-- "Monthly without `byDay` and `byMonthDay`, the start's day. Yearly: .. without `byMonthDay` and `byDay`, the start's day."
unfoldable pub implied_month_day : Frequency → Bool → Day → List ℤ
implied_month_day Daily no_day s = []
implied_month_day Weekly no_day s = []
implied_month_day Monthly no_day s = if no_day then pos s.monthday ∷ [] else []
implied_month_day Yearly no_day s = if no_day then pos s.monthday ∷ [] else []

-- "Yearly: without `byMonth`, and with `byMonthDay` or without `byDay`, the start's month".
unfoldable pub implied_month : Frequency → Bool → Bool → Day → List ℕ
implied_month Daily no_day no_month_day s = []
implied_month Weekly no_day no_month_day s = []
implied_month Monthly no_day no_month_day s = []
implied_month Yearly no_day no_month_day s = if not no_month_day || no_day then s.month ∷ [] else []

-- The by-lists of a rule whose event starts on the day s.
unfoldable pub days_from : RecurrenceRule → Day → List NDay
days_from r s = or_else r.by_day (implied_day r.frequency s)

unfoldable pub month_days_from : RecurrenceRule → Day → List ℤ
month_days_from r s = or_else r.by_month_day (implied_month_day r.frequency (absent r.by_day) s)

unfoldable pub months_from : RecurrenceRule → Day → List ℕ
months_from r s = or_else r.by_month (implied_month r.frequency (absent r.by_day) (absent r.by_month_day) s)
