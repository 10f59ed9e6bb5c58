-- Letters of an ABNF string. RFC 5234, 2.3: "ABNF strings are case insensitive", so a duration's letters are of either case.
use Rattle.std.specs.Prelude.{if◌then◌else◌, ℕ, ◌-◌, ltb, leb}

-- A lower-case letter, %x61-7A, as its upper-case one; any other byte as itself.
unfoldable pub upper : ℕ → ℕ
upper b =
    if ltb b 0x61 then b else
    if leb b 0x7A then b - 0x20 else
    b
