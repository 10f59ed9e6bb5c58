-- The three literal names, RFC 8259, section 3, and the values that hold no other: scalars.
use Rattle.std.specs.Prelude.{if◌then◌else◌, ℕ, ◌+◌, List, [], ◌∷◌, eqb, Result, Ok, Err}
use Rattle.json_text.specs.Ascii.{ascii}
use Rattle.json_text.specs.Bytes.{byte}
use Rattle.json_text.specs.Strings.{string_at}
use Rattle.json_text.specs.Numbers.{number_at}
use Rattle.json_text.specs.declared.SyntaxError.{SyntaxError}
use Rattle.json_text.specs.declared.SyntaxError.TheVariants.{Malformed}

-- The bytes of a word at a place.
unfoldable pub word_at : List ℕ → List ℕ → ℕ → Result ℕ SyntaxError
word_at [] s i = Ok i
word_at (b ∷ word) s i = let rest = word_at word s (i + 1) in if eqb (byte s i) b then rest else Err Malformed

-- A value that is neither object nor array: value = false / null / true / object / array / number / string
unfoldable pub scalar_at : List ℕ → ℕ → Result ℕ SyntaxError
scalar_at s i =
    if eqb (byte s i) 0x22 then string_at s i else
    if eqb (byte s i) 0x66 then word_at (ascii "false") s i else
    if eqb (byte s i) 0x6E then word_at (ascii "null") s i else
    if eqb (byte s i) 0x74 then word_at (ascii "true") s i else
    number_at s i
