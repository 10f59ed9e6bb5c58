-- Request 3, of one call: a sheet read back. A record is one of `rows_of sheet`, by its number from 0 on; `d` stands for a record past the last.
use Rattle.std.specs.Prelude.{ℕ, ◌+◌, ◌*◌, ◌-◌, ◌<◌, min, not, ◌&&◌, List, [], ◌∷◌, ◌++◌, ◌≡◌, eqb, ltb, leb, ℤ, pos, length, get_or, drop}
use Rattle.sheet.specs.Runs.{every}
use Rattle.sheet.specs.Records.{Row}
use Rattle.sheet.specs.Reading.{before, size_of, version_of, count_of, distance_of, rows_of, known, most_marks, rises_at, marked_at, clear_at, fault_of}
use Rattle.sheet.specs.Fetching.{summary_of, fetch_of, run_of, Summarises, Fetches, FetchesRun}
use Rattle.event.specs.Types.{Event}
use Rattle.call_definitions.specs.Utc.{ZoneTable}
use Rattle.call_definitions.specs.Bytes.{rows_in, written_version}
use Rattle.demands.specs.Conditions.{Numbered, Given}

-- ---- demand 1

-- "It refuses with 34 to 40, in this order: too short for a trailer, unknown version, wrong record size, a distance that isn't 28 times the count or
-- isn't the bytes before the trailer, ids not strictly increasing, marks outside 0 to 7, zeros not zero."
unfoldable pub sheet_conditions : List ℕ → List Numbered
sheet_conditions s =
    record { number = 34; holds = ltb (length s) 12 }
    ∷ record { number = 35; holds = not (known (version_of s)) }
    ∷ record { number = 36; holds = not (eqb (size_of s) 28) }
    ∷ record { number = 37; holds = not (eqb (distance_of s) (28 * count_of s) && eqb (distance_of s) (before s)) }
    ∷ record { number = 38; holds = not (every (rises_at s) 0 (count_of s - 1)) }
    ∷ record { number = 39; holds = not (every (marked_at (most_marks (version_of s)) s) 0 (count_of s)) }
    ∷ record { number = 40; holds = not (every (clear_at s) 0 (count_of s)) }
    ∷ []

-- "A record number at or over the count is 41."
unfoldable pub record_conditions : List ℕ → ℕ → List Numbered
record_conditions s number = sheet_conditions s ++ (record { number = 41; holds = leb (count_of s) number } ∷ [])

-- smocurant_read
pub record ReadAnswered (sheet : List ℕ) (answer version count : ℕ) : Type 0 where
  pub one : Given (sheet_conditions sheet) answer
  pub refused_numbers : (answer ≡ 0 → ⊥) → (version ≡ 0) × (count ≡ 0)
  pub version_is : answer ≡ 0 → version ≡ version_of sheet
  pub count_is : answer ≡ 0 → count ≡ length (rows_of sheet)

-- smocurant_record: "hands out record by number"
pub record RecordAnswered (sheet : List ℕ) (number answer : ℕ) (id start end : ℤ) (marks : ℕ) : Type 0 where
  pub one : Given (record_conditions sheet number) answer
  pub refused_numbers : (answer ≡ 0 → ⊥) → (id ≡ pos 0) × ((start ≡ pos 0) × ((end ≡ pos 0) × (marks ≡ 0)))
  pub there : answer ≡ 0 → number < length (rows_of sheet)
  pub record_is : (d : Row) → answer ≡ 0 → record { id = id; start = start; end = end; marks = marks } ≡ get_or (rows_of sheet) number d

-- ---- smocurant_records: the four lent slices at entry and at exit

pub record Slices : Type 0 where
  pub ids : List ℤ
  pub starts : List ℤ
  pub ends : List ℤ
  pub marks : List ℕ

-- What stands at place k of the four slices, as a record.
abbrev pub row_in : Slices → ℕ → Row
row_in l k = record { id = get_or l.ids k (pos 0); start = get_or l.starts k (pos 0); end = get_or l.ends k (pos 0); marks = get_or l.marks k 0 }

-- Each slice after its first n elements.
abbrev pub past : ℕ → Slices → Slices
past n l = record { ids = drop n l.ids; starts = drop n l.starts; ends = drop n l.ends; marks = drop n l.marks }

-- The lengths of the four slices.
abbrev pub lengths : Slices → List ℕ
lengths l = length l.ids ∷ length l.starts ∷ length l.ends ∷ length l.marks ∷ []

pub record RunAnswered (sheet : List ℕ) (first : ℕ) (before : Slices) (answer count : ℕ) (after : Slices) : Type 0 where
  pub one : Given (record_conditions sheet first) answer
  pub refused_count : (answer ≡ 0 → ⊥) → count ≡ 0
  pub refused_slices : (answer ≡ 0 → ⊥) → after ≡ before
  -- as many as each slice has room for, and as there are from that number on
  pub count_is : answer ≡ 0
      → count ≡ min (length before.ids) (min (length before.starts) (min (length before.ends) (min (length before.marks) (length (rows_of sheet) - first))))
  -- in order, each at its place
  pub records_are : (d : Row) → answer ≡ 0 → (k : ℕ) → k < count → row_in after k ≡ get_or (rows_of sheet) (first + k) d
  -- "a buffer keeps what lies past the result"
  pub others : answer ≡ 0 → past count after ≡ past count before
  pub whole : lengths after ≡ lengths before

-- ---- "Every sheet the library writes is read back to the records that made it"

-- The sheet of an event in a window: the ids, UTC times, marks and number of its records are those that it was written from.
pub record ReadBack (zones : ZoneTable) (e : Event) (from to : ℤ) (sheet : List ℕ) : Type 0 where
  pub accepted : fault_of sheet ≡ 0
  pub version : version_of sheet ≡ written_version
  pub records : rows_of sheet ≡ rows_in zones e from to
  pub number : count_of sheet ≡ length (rows_in zones e from to)

-- ---- demand 3: calls with the same number, or the same slices, each with a sheet of its own

pub record SameReadings (sheet sheet' : List ℕ) : Type 0 where
  pub read : (answer answer' version version' count count' : ℕ)
      → Summarises (summary_of sheet) answer version count → Summarises (summary_of sheet') answer' version' count'
      → (answer ≡ answer') × ((version ≡ version') × (count ≡ count'))
  pub fetched : (number answer answer' : ℕ) (id id' start start' end end' : ℤ) (marks marks' : ℕ)
      → Fetches (fetch_of sheet number) answer id start end marks → Fetches (fetch_of sheet' number) answer' id' start' end' marks'
      → (answer ≡ answer') × ((id ≡ id') × ((start ≡ start') × ((end ≡ end') × (marks ≡ marks'))))
  pub run : (first : ℕ) (l : Slices) (answer answer' count count' : ℕ) (after after' : Slices)
      → FetchesRun (run_of sheet first l.ids l.starts l.ends l.marks) answer count after.ids after.starts after.ends after.marks
      → FetchesRun (run_of sheet' first l.ids l.starts l.ends l.marks) answer' count' after'.ids after'.starts after'.ends after'.marks
      → (answer ≡ answer') × ((count ≡ count') × (after ≡ after'))

-- The sheet has no records: none can be asked for.
pub record NoRecords (sheet : List ℕ) : Type 0 where
  pub none : (answer version count : ℕ) → Summarises (summary_of sheet) answer version count → count ≡ 0
  pub never : (number answer : ℕ) (id start end : ℤ) (marks : ℕ) → Fetches (fetch_of sheet number) answer id start end marks → answer ≡ 41
