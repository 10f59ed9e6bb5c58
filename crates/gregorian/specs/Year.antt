-- Years of the Gregorian calendar, and the days before them, counted from 1600-01-01.
use Rattle.std.specs.Prelude.{if◌then◌else◌, ℕ, zero, suc, ◌+◌, ◌*◌, ◌%◌, Bool, true, false, eqb}

-- The Gregorian rule: every fourth year is a leap year, but of the hundredth years only every fourth.
unfoldable pub is_leap : ℕ → Bool
is_leap y = if eqb (y % 400) 0 then true else if eqb (y % 100) 0 then false else eqb (y % 4) 0

unfoldable pub year_length : ℕ → ℕ
year_length y = if is_leap y then 366 else 365

-- How many of the first k years from 1600 on are leap years.
unfoldable pub leap_years : ℕ → ℕ
leap_years zero = 0
leap_years (suc k) = leap_years k + (if is_leap (1600 + k) then 1 else 0)

-- 01, "Rules of recurrence": "entry k is 365k and one more for each leap year among the first k". The day number of January 1st of
-- the year 1600 + k.
unfoldable pub first_of_year : ℕ → ℕ
first_of_year k = 365 * k + leap_years k
