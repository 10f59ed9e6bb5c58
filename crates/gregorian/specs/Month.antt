-- Months, from 1 to 12. Any other number has no days.
use Rattle.std.specs.Prelude.{if◌then◌else◌, ℕ, zero, suc, ◌+◌, Bool, List, [], ◌∷◌, get_or, ℤ}
use Rattle.signed.specs.Place.{place_of}
use Rattle.gregorian.specs.Year.{is_leap}

-- Of a common or a leap year, by the month's number.
abbrev pub lengths : Bool → List ℕ
lengths leap = 0 ∷ 31 ∷ (if leap then 29 else 28) ∷ 31 ∷ 30 ∷ 31 ∷ 30 ∷ 31 ∷ 31 ∷ 30 ∷ 31 ∷ 30 ∷ 31 ∷ []

unfoldable pub length_in : Bool → ℕ → ℕ
length_in leap m = get_or (lengths leap) m 0

-- The days of a common or a leap year before its month m.
unfoldable pub start_in : Bool → ℕ → ℕ
start_in leap zero = 0
start_in leap (suc m) = start_in leap m + length_in leap m

unfoldable pub month_length : ℕ → ℕ → ℕ
month_length y m = length_in (is_leap y) m

unfoldable pub month_start : ℕ → ℕ → ℕ
month_start y m = start_in (is_leap y) m

-- 01: "A negative day of the month counts back from its end": -1 is the last. 0: the month has no such day.
unfoldable pub month_day : ℕ → ℕ → ℤ → ℕ
month_day y m z = place_of z (month_length y m)
