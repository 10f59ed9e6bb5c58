-- The parts of a date-time at their places in `YYYY-MM-DDTHH:MM:SS`.
use Rattle.std.specs.Prelude.{if◌then◌else◌, ℕ, ◌+◌, ◌*◌, Bool, true, false, List, ltb, leb}
use Rattle.digits.specs.Digits.{two_at, four_at}
use Rattle.gregorian.specs.declared.Date.{Date}
use Rattle.gregorian.specs.Month.{month_length}

unfoldable pub date_at : List ℕ → Date
date_at s = record { year = four_at s 0; month = two_at s 5; day = two_at s 8 }

abbrev pub hour_at : List ℕ → ℕ
hour_at s = two_at s 11

abbrev pub minute_at : List ℕ → ℕ
minute_at s = two_at s 14

abbrev pub second_at : List ℕ → ℕ
second_at s = two_at s 17

-- RFC 3339, 5.6: "time-hour = 2DIGIT ; 00-23", "time-minute = 2DIGIT ; 00-59". 01: "second 0 to 59".
unfoldable pub is_time : List ℕ → Bool
is_time s =
    if ltb 23 (hour_at s) then false else
    if ltb 59 (minute_at s) then false else
    leb (second_at s) 59

-- RFC 3339, 5.7: "date-mday" lies between 01 and the length of the month; by the Gregorian rule in every year. A month that is none has
-- no days.
unfoldable pub is_real : Date → Bool
is_real d = if ltb d.day 1 then false else leb d.day (month_length d.year d.month)

unfoldable pub second_of_day : List ℕ → ℕ
second_of_day s = 3600 * hour_at s + 60 * minute_at s + second_at s
