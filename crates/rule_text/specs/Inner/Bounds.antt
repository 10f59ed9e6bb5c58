-- The ranges of what a rule holds that was read without a fault.
use Rattle.std.specs.Prelude.{ℕ, ◌≤◌, ◌<◌, List, [], ◌∷◌, ◌≡◌, ℤ, nat_abs}
use Rattle.std.proofs.Math.Option.{Option, none, some}
use Rattle.rule.specs.Written.{NDay, RecurrenceRule}

pub data All {A : Type 0} (P : A → Type 0) : List A → Type 0 where
  nil : All P []
  more : {a : A} {l : List A} → P a → All P l → All P (a ∷ l)

-- A value that may be absent.
abbrev pub Given : {A : Type 0} → (A → Type 0) → Option A → Type 0
Given P none = ◌≡◌ {A = ℕ} 0 0
Given P (some a) = P a

abbrev pub SizeIn : ℕ → ℤ → Type 0
SizeIn most z = (1 ≤ nat_abs z) × (nat_abs z ≤ most)

abbrev pub MonthIn : ℕ → Type 0
MonthIn m = (1 ≤ m) × (m ≤ 12)

-- From 1601-01-01T00:00:00 to 9999-12-31T23:59:59.
abbrev pub TimeIn : ℕ → Type 0
TimeIn t = (31622400 ≤ t) × (t < 265078396800)

abbrev pub AtLeastOne : ℕ → Type 0
AtLeastOne n = 1 ≤ n

pub record DayIn (e : NDay) : Type 0 where
  pub day : e.day < 7
  pub nth : Given (SizeIn 53) e.nth_of_period

pub record Bounded (r : RecurrenceRule) : Type 0 where
  pub interval : 1 ≤ r.interval
  pub week : r.first_day_of_week < 7
  pub days : All DayIn r.by_day
  pub dates : All (SizeIn 31) r.by_month_day
  pub months : All MonthIn r.by_month
  pub positions : All (SizeIn 366) r.by_set_position
  pub until : Given TimeIn r.until
  pub count : Given AtLeastOne r.count
