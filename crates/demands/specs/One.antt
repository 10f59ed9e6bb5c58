-- Demand 1, of one call: "Whatever bytes, zone table, window or buffer arrive, a call ends with one answer: the lowest number of the table whose
-- condition holds. A refused call reports length 0, hands out no words and changes no byte of the lent buffer."
use Rattle.std.specs.Prelude.{ℕ, true, false, List, [], ◌≡◌, ℤ}
use Rattle.rule.specs.Lists.{any}
use Rattle.fault.specs.Fault.{is_wrong}
use Rattle.json_tree.specs.Tree.{text_tree}
use Rattle.json_tree.specs.Begins.{begins}
use Rattle.event.specs.Event.{faults_of}
use Rattle.call_definitions.specs.Utc.{ZoneTable}
use Rattle.demands.specs.Conditions.{Given, earlier, is_at, text_conditions, table_conditions, words_conditions}

-- What a call for the sheet hands back: its answer, the length, and the buffer after it.
pub record TableAnswered (zones : ZoneTable) (s : List ℕ) (from to : ℤ) (before : List ℕ) (answer size : ℕ) (after : List ℕ) : Type 0 where
  pub one : Given (table_conditions zones s from to before) answer
  pub refused_length : (answer ≡ 0 → ⊥) → size ≡ 0
  pub refused_buffer : (answer ≡ 0 → ⊥) → after ≡ before

-- What the call for the place of a fault hands back: its answer, and the place. 02, 4: "Each carries the byte place, from 0, at which the first such
-- value in the text begins .. The earliest place decides, then the lowest number".
pub record PlaceAnswered (s : List ℕ) (answer place : ℕ) : Type 0 where
  pub one : Given (text_conditions s) answer
  -- 20 to 26: a value of the text has that fault, and begins there
  pub there : is_wrong answer ≡ true → any (is_at answer place) (faults_of s) ≡ true
  -- and a value or a name of the text begins there
  pub begins : is_wrong answer ≡ true → begins place (text_tree s) ≡ true
  -- none of 20 to 26 stands earlier, nor a lower number there
  pub first : is_wrong answer ≡ true → any (earlier answer place) (faults_of s) ≡ false
  -- no other number has a place
  pub other : is_wrong answer ≡ false → place ≡ 0

-- What a call for a text hands back: its answer, and the place of the text.
pub record TextAnswered (s : List ℕ) (date : ℤ) (answer start size : ℕ) : Type 0 where
  pub one : Given (words_conditions s date) answer
  pub refused_text : (answer ≡ 0 → ⊥) → (start ≡ 0) × (size ≡ 0)

-- What a call for a text hands back that returns the part itself: its answer, and the part.
pub record PartAnswered (s : List ℕ) (date : ℤ) (answer : ℕ) (part : List ℕ) : Type 0 where
  pub one : Given (words_conditions s date) answer
  pub refused_part : (answer ≡ 0 → ⊥) → part ≡ []
