-- What a call hands back, held against the definitions: its number, and the numbers and bytes that it leaves where the caller lent room.
use Rattle.std.specs.Prelude.{ℕ, List, ◌≡◌, ℤ, take, drop}
use Rattle.call_definitions.specs.Utc.{ZoneTable}
use Rattle.call_definitions.specs.Answer.{Outcome}
use Rattle.call_definitions.specs.Call.{Located, Shown}

-- The zone table that a call is lent, by its parts.
abbrev pub zones_of : List ℕ → ℤ → List ℤ → List ℤ → ZoneTable
zones_of name initial instants offsets = record { name = name; initial = initial; instants = instants; offsets = offsets }

-- The table's call: its number, the length it reports, and every byte of the buffer.
pub record Gives (o : Outcome) (answer length : ℕ) (buffer : List ℕ) : Type 0 where
  pub answer_is : answer ≡ o.answer
  pub length_is : length ≡ o.length
  pub buffer_is : buffer ≡ o.buffer

-- The call for the place of a fault: its number, and the place.
pub record Locates (o : Located) (answer place : ℕ) : Type 0 where
  pub answer_is : answer ≡ o.answer
  pub place_is : place ≡ o.place

-- A text's call: its number, and the place of the text in the caller's own.
pub record Shows (o : Shown) (answer start length : ℕ) : Type 0 where
  pub answer_is : answer ≡ o.answer
  pub start_is : start ≡ o.start
  pub length_is : length ≡ o.length

-- A text's call that hands back the bytes themselves: its number, and the part of the caller's own text.
pub record Tells (o : Shown) (s : List ℕ) (answer : ℕ) (part : List ℕ) : Type 0 where
  pub answer_is : answer ≡ o.answer
  pub part_is : part ≡ take o.length (drop o.start s)
