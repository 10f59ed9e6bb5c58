-- The written form of a date-time. RFC 3339, 5.6:
--   date-fullyear = 4DIGIT, date-month = 2DIGIT, date-mday = 2DIGIT, time-hour = 2DIGIT, time-minute = 2DIGIT, time-second = 2DIGIT
--   partial-time = time-hour ":" time-minute ":" time-second [time-secfrac]
--   full-date = date-fullyear "-" date-month "-" date-mday
--   date-time = full-date "T" full-time
use Rattle.std.specs.Prelude.{if◌then◌else◌, ℕ, Bool, true, false, List, [], ◌∷◌, eqb}
use Rattle.json_text.specs.Ascii.{ascii}
use Rattle.json_text.specs.Bytes.{is_digit}

-- A picture's 0 stands for any digit, any other byte for itself. (So the letter T is upper-case only. 004: "any letters MUST be in
-- uppercase".)
unfoldable pub meets : ℕ → ℕ → Bool
meets p b = if eqb p 0x30 then is_digit b else eqb b p

-- A string begins as a picture shows.
unfoldable pub follows : List ℕ → List ℕ → Bool
follows [] s = true
follows (p ∷ ps) [] = false
follows (p ∷ ps) (b ∷ bs) = if meets p b then follows ps bs else false

-- 01: "`YYYY-MM-DDTHH:MM:SS`"
abbrev pub picture : List ℕ
picture = ascii "0000-00-00T00:00:00"
