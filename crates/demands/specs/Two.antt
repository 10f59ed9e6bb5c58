-- Demand 2, of one call: "When an accepted event that is not secret is answered 0, the recurrence ids on the sheet strictly increase, and a date-time
-- of the window is there exactly when no override excludes it and either an override names it, or it is the start or a rule gives it, and no
-- excluded rule does. RFC 8984 decides, in the written profile. UTC times, marks and words are those of the same document."
use Rattle.std.specs.Prelude.{ℕ, ◌+◌, ◌*◌, ◌<◌, ◌≤◌, ◌^◌, true, List, [], ◌↔◌, ◌≡◌, ℤ, nat_abs, length, take, drop}
use Rattle.std.proofs.Math.Option.{Option, none, some}
use Rattle.std.specs.Int.Signed.{le_z, lt_z}
use Rattle.rule.specs.Gives.{end_day}
use Rattle.recurrence.specs.Occurs.{Occurs}
use Rattle.event.specs.Types.{Text, Details, Event}
use Rattle.call_definitions.specs.Window.{since1600}
use Rattle.call_definitions.specs.Occurrence.{dates_of, is_occurrence, details_at}
use Rattle.call_definitions.specs.Utc.{ZoneTable, utc_start, days_later, utc_end}
use Rattle.call_definitions.specs.Bytes.{marks_of}
use Rattle.call_definitions.specs.Answer.{date_time_of}
use Rattle.sheet.specs.Records.{id_at, start_at, end_at, marks_at, zeros_at}
use Rattle.demands.specs.Sheet.{HasSheet}

-- The id is that of one of the n records on the sheet.
pub record OnSheet (n : ℕ) (sheet : List ℕ) (id : ℤ) : Type 0 where
  pub place : ℕ
  pub below : place < n
  pub is : id_at sheet place ≡ id

-- A date-time of the window, "the first included, the second not", that is an occurrence: "no override excludes it and either an override names it,
-- or it is the start or a rule gives it, and no excluded rule does".
pub record OccursIn (e : Event) (from to id : ℤ) : Type 0 where
  pub not_before : le_z from id ≡ true
  pub before : lt_z id to ≡ true
  pub occurs : Occurs (dates_of e) (since1600 id)

-- The details of the occurrence that record k is of, after its patch.
abbrev pub details_on : Event → List ℕ → ℕ → Details
details_on e sheet k = details_at e (since1600 (id_at sheet k))

-- What record k has beside its id.
pub record Row (zones : ZoneTable) (e : Event) (sheet : List ℕ) (k : ℕ) : Type 0 where
  pub start_is : start_at sheet k ≡ utc_start zones e.zone (details_on e sheet k)
  -- Request 2: "The end is now found in its steps: add weeks and days to the local start, convert to UTC, add the hours, minutes and seconds as
  -- absolute time." "Where a jump puts the end before the start, it is written as calculated."
  pub end_is : end_at sheet k ≡ utc_end zones e.zone (details_on e sheet k)
  -- The days may lead past 9998. The local end lies before 10000-01-02, which is 366 days after 9999-01-01, and is looked up as any local time.
  pub reach : days_later (details_on e sheet k).start (details_on e sheet k).length.days < 86400 * (end_day + 366)
  -- Nothing overflows: both times stay within the range of a zone table's instants (01: "instants within ±2^40").
  pub near : (nat_abs (start_at sheet k) ≤ 2 ^ 40) × (nat_abs (end_at sheet k) ≤ 2 ^ 40)
  pub marks_is : marks_at sheet k ≡ marks_of e.zone (details_on e sheet k)
  pub zeros : zeros_at sheet k ≡ 0

-- The sheet that a call leaves in the buffer, which begins with it.
pub record Listed (zones : ZoneTable) (e : Event) (from to : ℤ) (before : List ℕ) (size : ℕ) (after : List ℕ) : Type 0 where
  pub count : ℕ
  pub sheet : HasSheet count size before after
  -- "the recurrence ids on the sheet strictly increase"
  pub increase : (j k : ℕ) → j < k → k < count → lt_z (id_at after j) (id_at after k) ≡ true
  -- "a date-time of the window is there exactly when .."
  pub exactly : (id : ℤ) → OnSheet count after id ↔ OccursIn e from to id
  -- "UTC times, marks .. are those of the same document."
  pub rows : (k : ℕ) → k < count → Row zones e after k

-- The bytes of a text that may be absent.
unfoldable pub raw_of : Option Text → List ℕ
raw_of none = []
raw_of (some t) = t.raw

-- "words": the part of the caller's own text that a call shows of a public event is the text of that occurrence, after its patch.
pub record Told (which : Details → Option Text) (s : List ℕ) (e : Event) (date : ℤ) (start size : ℕ) : Type 0 where
  pub id : ℕ
  pub dated : date_time_of date ≡ some id
  pub occurs : is_occurrence e id ≡ true
  pub part : take size (drop start s) ≡ raw_of (which (details_at e id))
  pub size_is : size ≡ length (raw_of (which (details_at e id)))

-- The same of a call that returns the part itself.
pub record PartTold (which : Details → Option Text) (e : Event) (date : ℤ) (part : List ℕ) : Type 0 where
  pub id : ℕ
  pub dated : date_time_of date ≡ some id
  pub occurs : is_occurrence e id ≡ true
  pub bytes : part ≡ raw_of (which (details_at e id))
