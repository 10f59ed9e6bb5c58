-- Fractions of a second. RFC 3339, 5.6: time-secfrac = "." 1*DIGIT; source document 004: dur-secfrac = "." 1*DIGIT
use Rattle.std.specs.Prelude.{if◌then◌else◌, ℕ, Bool, true, false, not, List, [], ◌∷◌, eqb}
use Rattle.json_text.specs.Bytes.{is_digit}

unfoldable pub all_digits : List ℕ → Bool
all_digits [] = true
all_digits (b ∷ bs) = if is_digit b then all_digits bs else false

-- Some digit is not 0, so that there is one at all.
unfoldable pub non_zero : List ℕ → Bool
non_zero [] = false
non_zero (b ∷ bs) = if eqb b 0x30 then non_zero bs else true

-- The last of b and the bytes after it
unfoldable pub last_of : ℕ → List ℕ → ℕ
last_of b [] = b
last_of b (d ∷ ds) = last_of d ds

unfoldable pub ends_in_zero : List ℕ → Bool
ends_in_zero [] = false
ends_in_zero (b ∷ bs) = eqb (last_of b bs) 0x30

-- The bytes after the "." are a legal fraction. 004: "Fractional second values MUST NOT be included unless non-zero and MUST NOT have
-- trailing zeros".
unfoldable pub legal_fraction : List ℕ → Bool
legal_fraction l =
    if all_digits l then
    (if non_zero l then not (ends_in_zero l) else false)
    else false
