-- The days of a window that are marked at once.
use Rattle.std.specs.Prelude.{ℕ, ◌+◌, ◌*◌, ◌/◌, ◌<◌, ◌≤◌}

-- At least one and at most 1,024, and none that begins at the window's end or after it.
pub record Marks (from to days : ℕ) : Type 0 where
  pub some : 0 < days
  pub few : days ≤ 1024
  pub within : 86400 * (from / 86400 + days) < to + 86400
