-- 01, "Rules of recurrence": "`byMonth` `"1"` to `"12"` (one of these followed by `L`: 8; any other: 6)".
use Rattle.std.specs.Prelude.{if◌then◌else◌, ℕ, ◌+◌, ◌-◌, List, eqb, leb, length, take}
use Rattle.json_text.specs.Bytes.{byte, is_digit}
use Rattle.digits.specs.Digits.{digit}
use Rattle.keywords.specs.declared.Named.{Named}
use Rattle.keywords.specs.declared.Named.TheVariants.{Number, Wrong}

-- The month that is written "1" to "9", one digit that is not 0, or "10" to "12"; 0 for any other string.
unfoldable pub month_written : List ℕ → ℕ
month_written s =
    if eqb (length s) 1 then (if is_digit (byte s 0) then digit (byte s 0) else 0) else
    if eqb (length s) 2 then
    (if eqb (byte s 0) 0x31 then
    (if is_digit (byte s 1) then
    (if leb (byte s 1) 0x32 then 10 + digit (byte s 1) else 0)
    else 0)
    else 0)
    else 0

-- "1" to "12" is the month. One of these followed by L, 0x4C, that is what stands before a last byte L: 8. Any other string, 24.
unfoldable pub month_of : List ℕ → Named
month_of s =
    if leb 1 (month_written s) then Number (month_written s) else
    if eqb (length s) 0 then Wrong 24 else
    if eqb (byte s (length s - 1)) 0x4C then
    (if leb 1 (month_written (take (length s - 1) s)) then Wrong 8 else Wrong 24)
    else Wrong 24
