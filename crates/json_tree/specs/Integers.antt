-- Integers: optional minus and digits by JSON's grammar, no fraction or exponent, from -(2^53-1) to 2^53-1; -0 is 0.
use Rattle.std.specs.Prelude.{if◌then◌else◌, ℕ, ◌+◌, ◌-◌, ◌*◌, Bool, true, false, List, [], ◌∷◌, eqb, leb, drop, Option, Some, None}
use Rattle.json_text.specs.Bytes.{byte, is_digit, digits_at}
use Rattle.json_tree.specs.declared.Integer.{Integer}

-- The number that the digits at the front of a list continue.
unfoldable pub decimal : ℕ → List ℕ → ℕ
decimal v [] = v
decimal v (b ∷ bs) = let more = decimal (v * 10 + (b - 0x30)) bs in if is_digit b then more else v

-- 2^53 - 1
abbrev pub largest : ℕ
largest = 9007199254740991

-- Does a fraction or an exponent begin with this byte?
unfoldable pub goes_on : ℕ → Bool
goes_on b =
    if eqb b 0x2E then true else
    if eqb b 0x65 then true else
    eqb b 0x45

-- An integer of this size, below zero or not: -0 is 0.
unfoldable pub signed : Bool → ℕ → Integer
signed below size = if eqb size 0 then record { negative = false; size = 0 } else record { negative = below; size = size }

-- The digits at i, with nothing after them that belongs to the number.
unfoldable pub size_at : Bool → List ℕ → ℕ → Option Integer
size_at below s i =
    if goes_on (byte s (digits_at s i)) then None else
    if leb (decimal 0 (drop i s)) largest then Some (signed below (decimal 0 (drop i s))) else
    None

unfoldable pub whole_at : Bool → List ℕ → ℕ → Option Integer
whole_at below s i = if is_digit (byte s i) then size_at below s i else None

-- The integer at a place of a JSON text.
unfoldable pub integer_at : List ℕ → ℕ → Option Integer
integer_at s i = if eqb (byte s i) 0x2D then whole_at true s (i + 1) else whole_at false s i
