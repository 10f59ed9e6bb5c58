-- A rule as the paper writes it. A by-list that is absent is empty (01: "An empty by-list answers 6").
use Rattle.std.specs.Prelude.{ℕ, List, ℤ}
use Rattle.std.proofs.Math.Option.{Option}
use Rattle.rule.specs.declared.Frequency.{Frequency}

-- An entry of `byDay`: a weekday, 0 is Monday, and `nthOfPeriod` where it is written.
pub record NDay : Type 0 where
  pub day : ℕ
  pub nth_of_period : Option ℤ

-- 01, "Rules of recurrence". `until` is a date-time in seconds from 1600-01-01T00:00:00.
pub record RecurrenceRule : Type 0 where
  pub frequency : Frequency
  pub interval : ℕ
  pub first_day_of_week : ℕ
  pub by_day : List NDay
  pub by_month_day : List ℤ
  pub by_month : List ℕ
  pub by_set_position : List ℤ
  pub until : Option ℕ
  pub count : Option ℕ
