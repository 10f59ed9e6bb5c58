-- Escaped surrogates, RFC 8259, section 7: a character outside the Basic Multilingual Plane is escaped as a
-- 12-character sequence, the UTF-16 surrogate pair. In a JSON text a backslash stands only at the front of an
-- escape in a string, so the text is gone through from left to right, escape by escape.
use Rattle.std.specs.Prelude.{if◌then◌else◌, ℕ, zero, suc, ◌+◌, ◌-◌, ◌*◌, Bool, false, List, eqb, ltb, leb, length, Result, Ok, Err}
use Rattle.json_text.specs.Bytes.{byte, next}
use Rattle.json_text.specs.declared.SyntaxError.{SyntaxError}
use Rattle.json_text.specs.declared.SyntaxError.TheVariants.{Malformed}

-- The value of a HEXDIG, and 0 for any other byte.
unfoldable pub hex_value : ℕ → ℕ
hex_value b =
    if ltb b 0x30 then 0 else
    if leb b 0x39 then b - 0x30 else
    if ltb b 0x41 then 0 else
    if leb b 0x46 then b - 0x37 else
    if ltb b 0x61 then 0 else
    if leb b 0x66 then b - 0x57 else
    0

-- The number of the 4HEXDIG at a place.
unfoldable pub unit_at : List ℕ → ℕ → ℕ
unit_at s i = ((hex_value (byte s i) * 16 + hex_value (byte s (i + 1))) * 16 + hex_value (byte s (i + 2))) * 16 + hex_value (byte s (i + 3))

-- The surrogates: the first of a pair is D800 to DBFF, the second DC00 to DFFF.
unfoldable pub is_first : ℕ → Bool
is_first u = if ltb u 0xD800 then false else leb u 0xDBFF

unfoldable pub is_second : ℕ → Bool
is_second u = if ltb u 0xDC00 then false else leb u 0xDFFF

-- Is the second of a pair escaped at i?
unfoldable pub partner_at : List ℕ → ℕ → Bool
partner_at s i =
    if eqb (byte s i) 0x5C then
    (if eqb (byte s (i + 1)) 0x75 then is_second (unit_at s (i + 2)) else false)
    else false

-- The escape uXXXX whose backslash stands at i: a pair is passed as one; Bad is a surrogate without its partner.
unfoldable pub pair_at : List ℕ → ℕ → Result ℕ SyntaxError
pair_at s i =
    if is_second (unit_at s (i + 2)) then Err Malformed else
    if is_first (unit_at s (i + 2)) then (if partner_at s (i + 6) then Ok (i + 12) else Err Malformed) else
    Ok (i + 6)

-- One step: an escape, or a byte that is none.
unfoldable pub escaped_at : List ℕ → ℕ → Result ℕ SyntaxError
escaped_at s i =
    if eqb (byte s i) 0x5C then (if eqb (byte s (i + 1)) 0x75 then pair_at s i else Ok (i + 2)) else
    Ok (i + 1)

-- From i to the end of the text, in at most n steps: has each escaped surrogate its partner?
unfoldable pub pairs_at : ℕ → List ℕ → ℕ → Result ℕ SyntaxError
pairs_at zero s i = Ok i
pairs_at (suc n) s i =
    let rest = next (escaped_at s i) (λ j. pairs_at n s j) in
    if leb (length s) i then Ok i else rest
