-- 01, "Answer numbers": the numbers of the table, each with its condition.
use Rattle.std.specs.Prelude.{if◌then◌else◌, ℕ, ◌+◌, ◌≤◌, Bool, true, false, not, ◌&&◌, ◌||◌, List, [], ◌∷◌, ◌++◌, map, ◌≡◌, eqb, ltb, leb, ℤ, length, Result, Ok, Err}
use Rattle.std.proofs.Math.Option.{Option, none, some}
use Rattle.json_text.specs.Bytes.{space_at, next}
use Rattle.json_text.specs.declared.SyntaxError.{SyntaxError}
use Rattle.json_text.specs.declared.SyntaxError.TheVariants.{Malformed, TooDeep}
use Rattle.json_value.specs.Values.{value_at, end_at, text_at, levels}
use Rattle.json_strict.specs.Answer.{limit}
use Rattle.json_strict.specs.Surrogates.{pairs_at}
use Rattle.json_tree.specs.Tree.{text_tree}
use Rattle.json_tree.specs.Faults.{faulty}
use Rattle.fault.specs.declared.Fault.{Fault}
use Rattle.fault.specs.Fault.{is_wrong}
use Rattle.zone.specs.Table.{valid_table}
use Rattle.rule.specs.Lists.{any}
use Rattle.event.specs.Types.{Event}
use Rattle.event.specs.Values.{object}
use Rattle.event.specs.Event.{faults_of, is_no_event, event_of}
use Rattle.call_definitions.specs.Window.{valid_window}
use Rattle.call_definitions.specs.Occurrence.{is_occurrence}
use Rattle.call_definitions.specs.Utc.{ZoneTable}
use Rattle.call_definitions.specs.Bytes.{table_of}
use Rattle.call_definitions.specs.Answer.{is_secret, other_zone, date_time_of}

-- A number, and whether its condition holds.
pub record Numbered : Type 0 where
  pub number : ℕ
  pub holds : Bool

-- Does the condition of that number hold?
unfoldable pub applies : ℕ → List Numbered → Bool
applies n l = any (λ c. eqb c.number n && c.holds) l

-- 01: "The lowest number that applies is given", and 0, "done", where none does. The conditions stand in the order of the numbers, 20 to 26 in 6's
-- place: the first that holds is given.
pub data Given : List Numbered → ℕ → Type 0 where
  nothing : Given [] 0
  here : {c : Numbered} {l : List Numbered} → c.holds ≡ true → Given (c ∷ l) c.number
  later : {c : Numbered} {l : List Numbered} {n : ℕ} → c.holds ≡ false → Given l n → Given (c ∷ l) n

-- Where a number of any call stands among the others (`order` of crate fault is that of faults alone). 02, 4: "The order against the other numbers is that
-- of 6".
abbrev pub rank : ℕ → ℕ
rank n = if leb 20 n && leb n 26 then 6 else n

-- The numbers of these conditions stand in order, from m on.
abbrev pub InOrder : ℕ → List Numbered → Type 0
InOrder m [] = Unit {0}
InOrder m (c ∷ l) = (m ≤ rank c.number) × InOrder (rank c.number) l

-- ---- 7 to 9 and 20 to 26, of the faults that the values read have, each a number and a place

-- 02, 4: "The earliest place decides, then the lowest number". Is this fault one of 20 to 26 that stands before p, or there with a number below n?
unfoldable pub earlier : ℕ → ℕ → Fault → Bool
earlier n p f = is_wrong f.number && (ltb f.place p || (eqb f.place p && ltb f.number n))

abbrev pub is_at : ℕ → ℕ → Fault → Bool
is_at n p f = eqb f.number n && eqb f.place p

-- 20 to 26: some value has the fault n, and none of 20 to 26 stands earlier.
unfoldable pub is_first : List Fault → ℕ → Bool
is_first l n = any (λ (f : Fault). eqb f.number n && not (any (earlier n f.place) l)) l

-- 7 to 9: something that is read has the fault n.
unfoldable pub has : List Fault → ℕ → Bool
has l n = any (λ (f : Fault). eqb f.number n) l

unfoldable pub fault_conditions : List Fault → List Numbered
fault_conditions l =
    map (λ (n : ℕ). record { number = n; holds = is_first l n }) (20 ∷ 21 ∷ 22 ∷ 23 ∷ 24 ∷ 25 ∷ 26 ∷ [])
    ++ map (λ (n : ℕ). record { number = n; holds = has l n }) (7 ∷ 8 ∷ 9 ∷ [])

-- ---- 1 to 9, of a text

-- The reader goes from byte to byte and stops at the first that cannot stand there. `TooDeep`: all bytes before an opening bracket are the beginning
-- of a JSON text, and it opens a 17th level.
abbrev pub is_deep : Result ℕ SyntaxError → Bool
is_deep (Ok i) = false
is_deep (Err Malformed) = false
is_deep (Err TooDeep) = true

abbrev pub is_read : Result ℕ SyntaxError → Bool
is_read (Ok i) = true
is_read (Err e) = false

-- "a JSON text in valid UTF-8", however many levels it opens: JSON-text = ws value ws, with more levels than the text has bytes.
unfoldable pub is_json : List ℕ → Bool
is_json s = is_read (next (value_at (levels + length s) s (space_at s 0)) (λ j. end_at s (space_at s j)))

-- "an escaped surrogate without its partner"
unfoldable pub is_unpaired : List ℕ → Bool
is_unpaired s = not (is_read (pairs_at (length s) s 0))

-- 01, "Answer numbers", 1 to 9: what each is given for stands in the table there. 5: "the value is no object; `@type` is not `Event`; `uid`, `updated`
-- or `start` is missing".
unfoldable pub text_conditions : List ℕ → List Numbered
text_conditions s =
    record { number = 1; holds = ltb limit (length s) }
    ∷ record { number = 2; holds = is_deep (text_at s) }
    ∷ record { number = 3; holds = not (is_json s) || is_unpaired s }
    ∷ record { number = 4; holds = faulty (text_tree s) }
    ∷ record { number = 5; holds = is_no_event (object (text_tree s)) }
    ∷ fault_conditions (faults_of s)

-- ---- 10 to 13, of the table's call

unfoldable pub call_conditions : ZoneTable → Event → ℤ → ℤ → List ℕ → List Numbered
call_conditions zones e from to buffer =
    record { number = 10; holds = not (valid_table zones.initial zones.instants zones.offsets) }
    ∷ record { number = 11; holds = not (valid_window from to) }
    ∷ record { number = 12; holds = not (is_secret e.privacy) && other_zone e.zone zones.name }
    ∷ record { number = 13; holds = ltb (length buffer) (length (table_of zones e from to)) }
    ∷ []

-- "The sheet can answer 0 to 13".
unfoldable pub table_conditions : ZoneTable → List ℕ → ℤ → ℤ → List ℕ → List Numbered
table_conditions zones s from to buffer = text_conditions s ++ call_conditions zones (event_of s) from to buffer

-- ---- 14, of a text's call

unfoldable pub occurs_at : Event → Option ℕ → Bool
occurs_at e none = false
occurs_at e (some x) = is_occurrence e x

-- "words asked for a date that is no occurrence, or of a secret event"; "the words .. answer 0 to 9 or 14".
unfoldable pub words_conditions : List ℕ → ℤ → List Numbered
words_conditions s date =
    text_conditions s ++ (record { number = 14; holds = not (occurs_at (event_of s) (date_time_of date)) || is_secret (event_of s).privacy } ∷ [])
