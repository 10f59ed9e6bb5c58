-- The grammar of a duration, source document 004, "Duration". A rule starts at a place of the text and answers where what it read ends.
use Rattle.std.specs.Prelude.{if◌then◌else◌, ℕ, ◌+◌, Bool, false, List, eqb, length, Result, Ok, Err}
use Rattle.json_text.specs.Bytes.{byte, next}
use Rattle.json_text.specs.Numbers.{some_digits_at, frac_at}
use Rattle.json_text.specs.declared.SyntaxError.{SyntaxError}
use Rattle.json_text.specs.declared.SyntaxError.TheVariants.{Malformed}
use Rattle.duration_grammar.specs.Letter.{upper}

-- One rule or another, r1 / r2. No two alternatives of this grammar read the same text.
abbrev pub either : Result ℕ SyntaxError → Result ℕ SyntaxError → Result ℕ SyntaxError
either (Ok j) r = Ok j
either (Err e) r = r

-- A rule that may be left out at the place j: [r]. What follows such a rule here never begins as it does.
abbrev pub maybe : Result ℕ SyntaxError → ℕ → Result ℕ SyntaxError
maybe (Ok k) j = Ok k
maybe (Err e) j = Ok j

-- The letter c, given in upper case, in either case
unfoldable pub letter_at : ℕ → List ℕ → ℕ → Result ℕ SyntaxError
letter_at c s i = if eqb (upper (byte s i)) c then Ok (i + 1) else Err Malformed

-- 1*DIGIT and the letter c
unfoldable pub unit_at : ℕ → List ℕ → ℕ → Result ℕ SyntaxError
unit_at c s i = next (some_digits_at s i) (λ j. letter_at c s j)

-- dur-second = 1*DIGIT [dur-secfrac] "S", dur-secfrac = "." 1*DIGIT (JSON's frac is the same rule)
unfoldable pub second_at : List ℕ → ℕ → Result ℕ SyntaxError
second_at s i = next (some_digits_at s i) (λ j. next (frac_at s j) (λ k. letter_at 0x53 s k))

-- dur-minute = 1*DIGIT "M" [dur-second]
unfoldable pub minute_at : List ℕ → ℕ → Result ℕ SyntaxError
minute_at s i = next (unit_at 0x4D s i) (λ j. maybe (second_at s j) j)

-- dur-hour = 1*DIGIT "H" [dur-minute]
unfoldable pub hour_at : List ℕ → ℕ → Result ℕ SyntaxError
hour_at s i = next (unit_at 0x48 s i) (λ j. maybe (minute_at s j) j)

-- dur-hour / dur-minute / dur-second
unfoldable pub clock_at : List ℕ → ℕ → Result ℕ SyntaxError
clock_at s i = either (hour_at s i) (either (minute_at s i) (second_at s i))

-- dur-time = "T" (dur-hour / dur-minute / dur-second)
unfoldable pub time_at : List ℕ → ℕ → Result ℕ SyntaxError
time_at s i = next (letter_at 0x54 s i) (λ j. clock_at s j)

-- dur-day = 1*DIGIT "D"
unfoldable pub day_at : List ℕ → ℕ → Result ℕ SyntaxError
day_at s i = unit_at 0x44 s i

-- dur-week [dur-day], dur-week = 1*DIGIT "W"
unfoldable pub week_at : List ℕ → ℕ → Result ℕ SyntaxError
week_at s i = next (unit_at 0x57 s i) (λ j. maybe (day_at s j) j)

-- dur-cal = (dur-week [dur-day] / dur-day)
unfoldable pub cal_at : List ℕ → ℕ → Result ℕ SyntaxError
cal_at s i = either (week_at s i) (day_at s i)

-- dur-cal [dur-time]
unfoldable pub dated_at : List ℕ → ℕ → Result ℕ SyntaxError
dated_at s i = next (cal_at s i) (λ j. maybe (time_at s j) j)

-- duration = "P" (dur-cal [dur-time] / dur-time)
unfoldable pub duration_at : List ℕ → ℕ → Result ℕ SyntaxError
duration_at s i = next (letter_at 0x50 s i) (λ j. either (dated_at s j) (time_at s j))

-- What was read ends at the place n.
abbrev pub reaches : Result ℕ SyntaxError → ℕ → Bool
reaches (Ok j) n = eqb j n
reaches (Err e) n = false

-- The whole string is a duration.
unfoldable pub is_duration : List ℕ → Bool
is_duration s = reaches (duration_at s 0) (length s)
