-- Bytes of a text by their place, the answer of a reader, and runs of bytes of one sort.
use Rattle.std.specs.Prelude.{if◌then◌else◌, ℕ, suc, ◌+◌, Bool, true, false, List, [], ◌∷◌, get_or, drop, eqb, ltb, leb, Result, Ok, Err}
use Rattle.json_text.specs.declared.SyntaxError.{SyntaxError}

-- The byte at a place. Past the end it is 0, which no rule of the grammar takes.
abbrev pub byte : List ℕ → ℕ → ℕ
byte s i = get_or s i 0

-- One rule after another: the second starts where the first ended.
abbrev pub next : Result ℕ SyntaxError → (ℕ → Result ℕ SyntaxError) → Result ℕ SyntaxError
next (Ok j) k = k j
next (Err e) k = Err e

-- How many bytes at the front of a list pass a test.
unfoldable pub run : (ℕ → Bool) → List ℕ → ℕ
run p [] = 0
run p (b ∷ bs) = if p b then suc (run p bs) else 0

-- The first place from i on whose byte does not pass the test.
unfoldable pub past : (ℕ → Bool) → List ℕ → ℕ → ℕ
past p s i = i + run p (drop i s)

-- RFC 8259, 2: ws = *( %x20 / %x09 / %x0A / %x0D )
unfoldable pub is_space : ℕ → Bool
is_space b =
    if eqb b 0x20 then true else
    if eqb b 0x09 then true else
    if eqb b 0x0A then true else
    eqb b 0x0D

-- RFC 5234, B.1: DIGIT = %x30-39
unfoldable pub is_digit : ℕ → Bool
is_digit b = if ltb b 0x30 then false else leb b 0x39

-- RFC 8259, 2: ws at a place ends here.
unfoldable pub space_at : List ℕ → ℕ → ℕ
space_at s i = past is_space s i

-- *DIGIT at a place ends here.
unfoldable pub digits_at : List ℕ → ℕ → ℕ
digits_at s i = past is_digit s i
