-- Strings, RFC 8259, section 7: string = quotation-mark *char quotation-mark
use Rattle.std.specs.Prelude.{if◌then◌else◌, ℕ, suc, zero, ◌+◌, Bool, true, false, List, length, eqb, ltb, leb, Result, Ok, Err}
use Rattle.json_text.specs.Bytes.{byte, next, is_digit}
use Rattle.json_text.specs.Utf8.{multi_at}
use Rattle.json_text.specs.declared.SyntaxError.{SyntaxError}
use Rattle.json_text.specs.declared.SyntaxError.TheVariants.{Malformed}

-- RFC 5234, B.1: HEXDIG = DIGIT / "A" / "B" / "C" / "D" / "E" / "F", in either case (RFC 5234, 2.3)
unfoldable pub is_hex : ℕ → Bool
is_hex b =
    if is_digit b then true else
    if ltb b 0x41 then false else
    if leb b 0x46 then true else
    if ltb b 0x61 then false else
    leb b 0x66

-- 4HEXDIG
unfoldable pub hex_at : List ℕ → ℕ → Result ℕ SyntaxError
hex_at s i =
    if is_hex (byte s i) then
    (if is_hex (byte s (i + 1)) then
    (if is_hex (byte s (i + 2)) then
    (if is_hex (byte s (i + 3)) then Ok (i + 4) else Err Malformed)
    else Err Malformed)
    else Err Malformed)
    else Err Malformed

-- What follows a backslash by itself: %x22 " / %x5C \ / %x2F / / %x62 b / %x66 f / %x6E n / %x72 r / %x74 t
unfoldable pub is_escaped : ℕ → Bool
is_escaped b =
    if eqb b 0x22 then true else
    if eqb b 0x5C then true else
    if eqb b 0x2F then true else
    if eqb b 0x62 then true else
    if eqb b 0x66 then true else
    if eqb b 0x6E then true else
    if eqb b 0x72 then true else
    eqb b 0x74

-- What follows `escape`: one of those, or %x75 4HEXDIG, uXXXX
unfoldable pub escape_at : List ℕ → ℕ → Result ℕ SyntaxError
escape_at s i =
    if is_escaped (byte s i) then Ok (i + 1) else
    if eqb (byte s i) 0x75 then hex_at s (i + 1) else
    Err Malformed

-- char = unescaped / escape ( .. ), where unescaped = %x20-21 / %x23-5B / %x5D-10FFFF is written in UTF-8.
-- That the byte is no quotation-mark is asked before, in `chars_at`.
unfoldable pub char_at : List ℕ → ℕ → Result ℕ SyntaxError
char_at s i =
    if eqb (byte s i) 0x5C then escape_at s (i + 1) else
    if ltb (byte s i) 0x20 then Err Malformed else
    if ltb (byte s i) 0x80 then Ok (i + 1) else
    multi_at s i

-- *char quotation-mark, of at most n chars
unfoldable pub chars_at : ℕ → List ℕ → ℕ → Result ℕ SyntaxError
chars_at zero s i = Err Malformed
chars_at (suc n) s i =
    let rest = next (char_at s i) (λ j. chars_at n s j) in
    if eqb (byte s i) 0x22 then Ok (i + 1) else rest

-- string: a text has fewer chars than bytes
unfoldable pub string_at : List ℕ → ℕ → Result ℕ SyntaxError
string_at s i = if eqb (byte s i) 0x22 then chars_at (length s) s (i + 1) else Err Malformed
