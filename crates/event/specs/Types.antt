-- What is read of an event. Date-times are seconds from 1600-01-01T00:00:00.
use Rattle.std.specs.Prelude.{ℕ, Bool, List}
use Rattle.std.proofs.Math.Option.{Option}
use Rattle.rule.specs.Written.{RecurrenceRule}
use Rattle.keywords.specs.declared.Privacy.{Privacy}

-- A text: the place of its first byte, and the bytes between the quotes.
pub record Text : Type 0 where
  pub at : ℕ
  pub raw : List ℕ

-- A duration: weeks and days, in days, apart from hours, minutes and seconds, in seconds.
pub record Length : Type 0 where
  pub days : ℕ
  pub seconds : ℕ

-- What an occurrence has of its own: when it starts, how long it lasts, the marks, the texts.
pub record Details : Type 0 where
  pub start : ℕ
  pub length : Length
  pub busy : Bool
  pub all_day : Bool
  pub title : Option Text
  pub description : Option Text

-- An override: the date-time that it is named by, whether it excludes it, and the details of that occurrence after the patch.
pub record Override : Type 0 where
  pub id : ℕ
  pub excluded : Bool
  pub details : Details

pub record Event : Type 0 where
  -- "absent or null is floating"
  pub zone : Option (List ℕ)
  pub privacy : Privacy
  pub details : Details
  pub rules : List RecurrenceRule
  pub excluded_rules : List RecurrenceRule
  pub overrides : List Override
