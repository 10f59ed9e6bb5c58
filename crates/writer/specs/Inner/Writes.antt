-- What the writer asks for, and what it leaves in the buffer.
use Rattle.std.specs.Prelude.{ℕ, ◌+◌, ◌*◌, ◌<◌, ◌≤◌, ◌^◌, true, List, map, ◌≡◌, ℤ, length, get_or}
use Rattle.std.proofs.lemmas.List.Edits.{sets}
use Rattle.json_ends.specs.Inner.Ends.{Ends}
use Rattle.zone.specs.Table.{valid_table}
use Rattle.sheet.specs.Records.{Row}
use Rattle.sheet.specs.Writing.{rows_bytes}
use Rattle.override_text.specs.Inner.Meaning.{details_in}
use Rattle.record.specs.Inner.Utc.{times_of}
use Rattle.record.specs.Inner.Occurrences.{Small}
use Rattle.window.specs.Inner.Sorted.{Ordered}
use Rattle.writer.specs.declared.Form.{Form}
use Rattle.writer.specs.Inner.Details.{details_by, row_by}

-- What a record is made from: the text and its ends, what is kept of the event, its overrides with the places of their patches, and the zone
-- table.
pub record Writes (s t : List ℕ) (f : Form) (ids places : List ℕ) (initial : ℤ) (instants offsets : List ℤ) : Type 0 where
  pub ends : Ends s t
  pub sorted : Ordered ids f.sorted
  pub even : length ids ≡ length places
  pub valid : valid_table initial instants offsets ≡ true
  pub small : (x : ℕ) → x < 2 ^ 60 → Small x (times_of f.floating (details_by s (details_in s f.own) ids places x))

-- Ids that lie in the profile, and far beyond.
abbrev pub Early : List ℕ → Type 0
Early ids = (k : ℕ) → k < length ids → get_or ids k 0 < 2 ^ 60

-- What the look for the times of one occurrence asks for: of `Writes` what does not speak of the zone table or of sizes.
pub record LooksUp (s t : List ℕ) (f : Form) (ids places : List ℕ) : Type 0 where
  pub ends : Ends s t
  pub sorted : Ordered ids f.sorted
  pub even : length ids ≡ length places

-- The records of a chunk of ids fit into a buffer of a size, the first of them at a place.
pub record WritesAt (size at : ℕ) (chunk s t : List ℕ) (f : Form) (ids places : List ℕ) (initial : ℤ) (instants offsets : List ℤ) : Type 0 where
  pub writes : Writes s t f ids places initial instants offsets
  pub early : Early chunk
  pub room : at + 28 * length chunk ≤ size

-- The record of each id.
abbrev pub row_for : List ℕ → Form → List ℕ → List ℕ → ℤ → List ℤ → List ℤ → ℕ → Row
row_for s f ids places initial instants offsets = row_by f.floating initial instants offsets (details_by s (details_in s f.own) ids places)

-- The rows of a chunk, one after the other, and the place after them.
pub record WroteChunk (row : ℕ → Row) (chunk : List ℕ) (at : ℕ) (before after : List ℕ) (end : ℕ) : Type 0 where
  pub bytes : after ≡ sets before at (rows_bytes (map row chunk))
  pub place : end ≡ at + 28 * length chunk
