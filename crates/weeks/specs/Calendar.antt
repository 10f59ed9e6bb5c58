-- The week that an instant is in, counted from the one that begins at 345,600, Monday 1970-01-05. It is floor division, so before 1970 too:
-- `negsuc n` is -(n + 1).
use Rattle.std.specs.Prelude.{◌/◌, ℤ, pos, negsuc, ◌-ℤ◌}

unfoldable pub floor_weeks : ℤ → ℤ
floor_weeks (pos n) = pos (n / 604800)
floor_weeks (negsuc n) = negsuc (n / 604800)

unfoldable pub week_of : ℤ → ℤ
week_of t = floor_weeks (t -ℤ pos 345600)
