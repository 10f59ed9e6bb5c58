-- Days of one month.
use Rattle.std.specs.Prelude.{if◌then◌else◌, ℕ, ◌+◌, ◌≤◌, ◌≡◌, ltb}
use Rattle.rule.specs.declared.Day.{Day}
use Rattle.rule.specs.Gives.{end_day}
use Rattle.track.specs.Inner.Skips.{to_month_end}

-- The n days from x on lie in its month and in the profile.
pub record InMonth (x : Day) (n : ℕ) : Type 0 where
  pub within : n ≤ to_month_end x
  pub known : x.number + n ≤ end_day

-- The days that are left, as far as they lie in the month of x: at least one.
pub record Part (x : Day) (left n : ℕ) : Type 0 where
  pub is : n ≡ (if ltb left (to_month_end x) then left else to_month_end x)
  pub more : 1 ≤ n
  pub within : n ≤ to_month_end x
  pub most : n ≤ left
