-- UTCDateTime, 01, "Reading the event": "`updated` is a UTCDateTime, years 0000 to 9999, second 0 to 59 (house); its fraction, if non-zero
-- with no trailing zero, may stand."
use Rattle.std.specs.Prelude.{if◌then◌else◌, ℕ, ◌-◌, Bool, true, false, List, eqb, ltb, length, take, drop}
use Rattle.json_text.specs.Bytes.{byte}
use Rattle.digits.specs.Fraction.{legal_fraction}
use Rattle.date_time.specs.Picture.{follows, picture}
use Rattle.date_time.specs.Parts.{date_at, is_time, is_real}

-- What stands after the seconds. 004: "the time offset MUST be the character `Z`", in upper case; before it a fraction may stand, "." and
-- what lies between it and the last byte.
unfoldable pub ends_in_z : List ℕ → Bool
ends_in_z s =
    if eqb (length s) 20 then eqb (byte s 19) 0x5A else
    if ltb (length s) 21 then false else
    if eqb (byte s 19) 0x2E then
    (if eqb (byte s (length s - 1)) 0x5A then legal_fraction (take (length s - 1 - 20) (drop 20 s)) else false)
    else false

-- A UTCDateTime. 02, 4: any other string is a "bad date or time 21".
unfoldable pub is_utc : List ℕ → Bool
is_utc s =
    if follows picture s then
    (if is_real (date_at s) then
    (if is_time s then ends_in_z s else false)
    else false)
    else false
