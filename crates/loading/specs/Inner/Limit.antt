-- The days that a window asks for.
use Rattle.std.specs.Prelude.{if◌then◌else◌, ℕ, ◌+◌, ◌/◌, ltb}
use Rattle.rule.specs.Gives.{end_day}

-- The day after the last one of a window to `to`, and no further than 9998.
unfoldable pub limit_of : ℕ → ℕ
limit_of to = if ltb (to / 86400) end_day then to / 86400 + 1 else end_day
