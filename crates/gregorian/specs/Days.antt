-- Dates and day numbers: day 0 is 1600-01-01.
use Rattle.std.specs.Prelude.{if◌then◌else◌, ℕ, zero, suc, ◌+◌, ◌-◌, ◌*◌, ◌/◌, ◌%◌, Bool, ◌&&◌, leb, ltb}
use Rattle.gregorian.specs.declared.Date.{Date}
use Rattle.gregorian.specs.Year.{year_length, first_of_year}
use Rattle.gregorian.specs.Month.{month_length, month_start}

-- A date of the Gregorian calendar, of the years that a rule of the profile can reach.
unfoldable pub is_date : Date → Bool
is_date d = leb 1600 d.year && (leb d.year 9999 && (leb 1 d.day && leb d.day (month_length d.year d.month)))

unfoldable pub day_of : Date → ℕ
day_of d = first_of_year (d.year - 1600) + month_start d.year d.month + (d.day - 1)

-- As many days as the years 1600 to 9999 have: 21 cycles of 400 years.
abbrev pub day_count : ℕ
day_count = 3068037

-- Day r, from 0, of the months from m on: a day of m where m is that long, else one of a later month; at most n months are looked at.
unfoldable pub from_month : ℕ → ℕ → ℕ → ℕ → Date
from_month zero y m r = record { year = y; month = m; day = suc r }
from_month (suc n) y m r =
    let later = from_month n y (suc m) (r - month_length y m) in
    if ltb r (month_length y m) then record { year = y; month = m; day = suc r } else later

-- Day r, from 0, of the years from y on, in the same way.
unfoldable pub from_year : ℕ → ℕ → ℕ → Date
from_year zero y r = from_month 12 y 1 r
from_year (suc n) y r =
    let later = from_year n (suc y) (r - year_length y) in
    if ltb r (year_length y) then from_month 12 y 1 r else later

-- The date of day n. A cycle of 400 years has 146,097 days.
unfoldable pub date_of : ℕ → Date
date_of n = from_year 400 (1600 + 400 * (n / 146097)) (n % 146097)

-- The weekday of day n: 0 is Monday, 6 is Sunday. Day 0 was a Saturday.
unfoldable pub weekday_of : ℕ → ℕ
weekday_of n = (n + 5) % 7
