-- Local seconds from 1970-01-01T00:00:00, signed, as a day and the second of the day.
use Rattle.std.specs.Prelude.{ℕ, suc, ◌+◌, ◌-◌, ◌*◌, ◌/◌, ◌%◌, ◌<◌, ◌≤◌, ℤ, pos, negsuc, ◌+ℤ◌, ◌-ℤ◌, ◌*ℤ◌}
use Rattle.signed.specs.Parts.{pos_part, neg_part}
use Rattle.gregorian.specs.declared.Moment.{Moment}

-- Division of an integer by d, rounded down: the quotient, and what is left, from 0 to d - 1. (`negsuc n` is -(n + 1).)
unfoldable pub floor_div : ℤ → ℕ → ℤ
floor_div (pos n) d = pos (n / d)
floor_div (negsuc n) d = negsuc (n / d)

unfoldable pub floor_mod : ℤ → ℕ → ℕ
floor_mod (pos n) d = n % d
floor_mod (negsuc n) d = d - suc (n % d)

-- The day number of 1970-01-01.
abbrev pub epoch_day : ℕ
epoch_day = 135140

-- From 1600-01-01T00:00:00 to 9999-12-31T23:59:59.
pub record InCalendar (t : ℤ) : Type 0 where
  pub low : neg_part t ≤ 11676096000
  pub high : pos_part t < 253402300800

-- 01, "The form each place needs": "seconds before 1970, with floor division into days". The day is counted from 1600-01-01.
unfoldable pub moment_of : ℤ → Moment
moment_of t = record { day = pos_part (floor_div t 86400 +ℤ pos epoch_day); second = floor_mod t 86400 }

unfoldable pub seconds_of : Moment → ℤ
seconds_of m = (pos m.day -ℤ pos epoch_day) *ℤ pos 86400 +ℤ pos m.second
