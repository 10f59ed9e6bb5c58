-- Values, RFC 8259, sections 2 to 5: the structural characters, arrays, objects, and the whole text.
use Rattle.std.specs.Prelude.{if◌then◌else◌, ℕ, zero, suc, ◌+◌, List, length, eqb, Result, Ok, Err}
use Rattle.json_text.specs.Bytes.{byte, next, space_at}
use Rattle.json_text.specs.Strings.{string_at}
use Rattle.json_text.specs.Words.{scalar_at}
use Rattle.json_text.specs.declared.SyntaxError.{SyntaxError}
use Rattle.json_text.specs.declared.SyntaxError.TheVariants.{Malformed, TooDeep}
use Rattle.json_value.specs.declared.Item.{Item}
use Rattle.json_value.specs.declared.Item.TheVariants.{More, Done}

-- value-separator = ws %x2C ws, or the closing bracket: end-array = ws %x5D ws, end-object = ws %x7D ws.
-- The ws after a bracket is read by what follows it.
unfoldable pub after_at : ℕ → List ℕ → ℕ → Result Item SyntaxError
after_at close s i =
    if eqb (byte s (space_at s i)) 0x2C then Ok (More (space_at s (space_at s i + 1))) else
    if eqb (byte s (space_at s i)) close then Ok (Done (space_at s i + 1)) else
    Err Malformed

-- After an opening bracket, which has ws of its own: the closing bracket, or the first item.
unfoldable pub first_at : ℕ → List ℕ → ℕ → Item
first_at close s i =
    if eqb (byte s (space_at s i)) close then Done (space_at s i + 1) else
    More (space_at s i)

-- name-separator = ws %x3A ws
unfoldable pub colon_at : List ℕ → ℕ → Result ℕ SyntaxError
colon_at s i = if eqb (byte s (space_at s i)) 0x3A then Ok (space_at s (space_at s i + 1)) else Err Malformed

-- The front of a member: member = string name-separator value
unfoldable pub name_at : List ℕ → ℕ → Result ℕ SyntaxError
name_at s i = next (string_at s i) (λ j. colon_at s j)

-- Go on with the next item, or end.
abbrev pub next_item : Result Item SyntaxError → (ℕ → Result ℕ SyntaxError) → Result ℕ SyntaxError
next_item (Ok (More k)) f = f k
next_item (Ok (Done e)) f = Ok e
next_item (Err e) f = Err e

-- value *( value-separator value ) end-array, of at most n values
unfoldable pub elements_at : (ℕ → Result ℕ SyntaxError) → ℕ → List ℕ → ℕ → Result ℕ SyntaxError
elements_at value zero s i = Err Malformed
elements_at value (suc n) s i = next (value i) (λ j. next_item (after_at 0x5D s j) (λ k. elements_at value n s k))

-- member *( value-separator member ) end-object, of at most n members
unfoldable pub members_at : (ℕ → Result ℕ SyntaxError) → ℕ → List ℕ → ℕ → Result ℕ SyntaxError
members_at value zero s i = Err Malformed
members_at value (suc n) s i =
    next (name_at s i) (λ v. next (value v) (λ j. next_item (after_at 0x7D s j) (λ k. members_at value n s k)))

-- array = begin-array [ value *( value-separator value ) ] end-array, with its begin-array at i
unfoldable pub array_of : (ℕ → Result ℕ SyntaxError) → List ℕ → ℕ → Result ℕ SyntaxError
array_of value s i = next_item (Ok (first_at 0x5D s (i + 1))) (λ k. elements_at value (length s) s k)

-- object = begin-object [ member *( value-separator member ) ] end-object, with its begin-object at i
unfoldable pub object_of : (ℕ → Result ℕ SyntaxError) → List ℕ → ℕ → Result ℕ SyntaxError
object_of value s i = next_item (Ok (first_at 0x7D s (i + 1))) (λ k. members_at value (length s) s k)

-- value = false / null / true / object / array / number / string
unfoldable pub value_of : (ℕ → Result ℕ SyntaxError) → (ℕ → Result ℕ SyntaxError) → List ℕ → ℕ → Result ℕ SyntaxError
value_of object array s i =
    let o = object i in
    let a = array i in
    if eqb (byte s i) 0x7B then o else
    if eqb (byte s i) 0x5B then a else
    scalar_at s i

-- A value where so many levels may still be opened. An array or object that opens one more is too deep, whatever follows.
unfoldable pub value_at : ℕ → List ℕ → ℕ → Result ℕ SyntaxError
value_at zero s i = value_of (λ k. Err TooDeep) (λ k. Err TooDeep) s i
value_at (suc l) s i = value_of (λ k. object_of (λ v. value_at l s v) s k) (λ k. array_of (λ v. value_at l s v) s k) s i

-- The end of the text.
unfoldable pub end_at : List ℕ → ℕ → Result ℕ SyntaxError
end_at s i = if eqb i (length s) then Ok i else Err Malformed

-- An array or object may hold values down to 16 levels.
abbrev pub levels : ℕ
levels = 16

-- JSON-text = ws value ws
unfoldable pub text_at : List ℕ → Result ℕ SyntaxError
text_at s = next (value_at levels s (space_at s 0)) (λ j. end_at s (space_at s j))
