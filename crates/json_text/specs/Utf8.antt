-- UTF-8 by the ABNF of RFC 3629, section 4. UTF8-1, %x00-7F, is one byte below 0x80; the longer forms are here.
use Rattle.std.specs.Prelude.{if◌then◌else◌, ℕ, suc, zero, ◌+◌, Bool, false, List, eqb, ltb, leb, Result, Ok, Err}
use Rattle.json_text.specs.Bytes.{byte}
use Rattle.json_text.specs.declared.SyntaxError.{SyntaxError}
use Rattle.json_text.specs.declared.SyntaxError.TheVariants.{Malformed}

-- UTF8-tail = %x80-BF
unfoldable pub is_tail : ℕ → Bool
is_tail b = if ltb b 0x80 then false else leb b 0xBF

-- n( UTF8-tail )
unfoldable pub tails_at : ℕ → List ℕ → ℕ → Result ℕ SyntaxError
tails_at zero s i = Ok i
tails_at (suc n) s i = let rest = tails_at n s (i + 1) in if is_tail (byte s i) then rest else Err Malformed

-- A second byte from low to high, then n( UTF8-tail )
unfoldable pub second_at : ℕ → ℕ → ℕ → List ℕ → ℕ → Result ℕ SyntaxError
second_at low high n s i =
    if ltb (byte s i) low then Err Malformed else
    if ltb high (byte s i) then Err Malformed else
    tails_at n s (i + 1)

-- The forms of more than one byte, by their first byte at the place i.
unfoldable pub multi_at : List ℕ → ℕ → Result ℕ SyntaxError
multi_at s i =
    -- no form begins with %x80-C1
    if ltb (byte s i) 0xC2 then Err Malformed else
    -- UTF8-2 = %xC2-DF UTF8-tail
    if ltb (byte s i) 0xE0 then second_at 0x80 0xBF 0 s (i + 1) else
    -- UTF8-3 = %xE0 %xA0-BF UTF8-tail / %xE1-EC 2( UTF8-tail ) / %xED %x80-9F UTF8-tail / %xEE-EF 2( UTF8-tail )
    if eqb (byte s i) 0xE0 then second_at 0xA0 0xBF 1 s (i + 1) else
    if ltb (byte s i) 0xED then second_at 0x80 0xBF 1 s (i + 1) else
    if eqb (byte s i) 0xED then second_at 0x80 0x9F 1 s (i + 1) else
    if ltb (byte s i) 0xF0 then second_at 0x80 0xBF 1 s (i + 1) else
    -- UTF8-4 = %xF0 %x90-BF 2( UTF8-tail ) / %xF1-F3 3( UTF8-tail ) / %xF4 %x80-8F 2( UTF8-tail )
    if eqb (byte s i) 0xF0 then second_at 0x90 0xBF 2 s (i + 1) else
    if ltb (byte s i) 0xF4 then second_at 0x80 0xBF 2 s (i + 1) else
    if eqb (byte s i) 0xF4 then second_at 0x80 0x8F 2 s (i + 1) else
    -- no form begins with %xF5-FF
    Err Malformed
