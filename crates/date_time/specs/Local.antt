-- LocalDateTime, 01, "Reading the event".
use Rattle.std.specs.Prelude.{if◌then◌else◌, ℕ, ◌+◌, ◌*◌, Bool, false, List, eqb, leb, length, drop}
use Rattle.json_text.specs.Bytes.{byte}
use Rattle.digits.specs.Fraction.{legal_fraction}
use Rattle.gregorian.specs.Days.{is_date, day_of}
use Rattle.date_time.specs.Picture.{follows, picture}
use Rattle.date_time.specs.Parts.{date_at, is_time, second_of_day}
use Rattle.date_time.specs.declared.DateTime.{DateTime}
use Rattle.date_time.specs.declared.DateTime.TheVariants.{At, Fault}

-- "`YYYY-MM-DDTHH:MM:SS`, a real Gregorian date, second 0 to 59, year 1601 to 9998 (`until`: to 9999)": what stands before a fraction. The
-- last year is given.
unfoldable pub is_local : ℕ → List ℕ → Bool
is_local last s =
    if follows picture s then
    (if is_date (date_at s) then
    (if is_time s then
    (if leb 1601 (date_at s).year then leb (date_at s).year last else false)
    else false)
    else false)
    else false

-- "A fraction that is non-zero with no trailing zero answers 8, any other fraction 6." 02, 4: "bad date or time 21". What stands after the seconds, where
-- anything does.
unfoldable pub fraction_fault : List ℕ → ℕ
fraction_fault s =
    if eqb (byte s 19) 0x2E then
    (if legal_fraction (drop 20 s) then 8 else 21)
    else 21

-- Seconds from 1600-01-01T00:00:00.
unfoldable pub seconds_at : List ℕ → ℕ
seconds_at s = 86400 * day_of (date_at s) + second_of_day s

-- A LocalDateTime of a year to the given last: its seconds; else 21. With a legal fraction 8, where the rest is right.
unfoldable pub local_of : ℕ → List ℕ → DateTime
local_of last s =
    if is_local last s then
    (if eqb (length s) 19 then At (seconds_at s) else Fault (fraction_fault s))
    else Fault 21
