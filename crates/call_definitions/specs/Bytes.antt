-- 01, "The sheet and the words": the records of the table of occurrences (01: "the sheet"), and its bytes.
use Rattle.std.specs.Prelude.{if◌then◌else◌, ℕ, ◌+◌, List, [], map, ℤ}
use Rattle.std.proofs.Math.Option.{Option}
use Rattle.keywords.specs.declared.Privacy.{Privacy}
use Rattle.keywords.specs.declared.Privacy.TheVariants.{Public, Private, Secret}
use Rattle.event.specs.Types.{Details, Event}
use Rattle.sheet.specs.Records.{Row}
use Rattle.sheet.specs.Writing.{sheet_of}
use Rattle.call_definitions.specs.Window.{since1600, since1970}
use Rattle.call_definitions.specs.Utc.{ZoneTable, is_floating, utc_start, utc_end}
use Rattle.call_definitions.specs.Occurrence.{occurrences, details_at}

-- "marks (1: busy 1, all-day 2, floating 4)"
unfoldable pub marks_of : Option (List ℕ) → Details → ℕ
marks_of zone d = (if d.busy then 1 else 0) + (if d.all_day then 2 else 0) + (if is_floating zone then 4 else 0)

-- "id in local seconds, UTC start, UTC end (8 each, signed), marks .."
unfoldable pub row_of : ZoneTable → Option (List ℕ) → ℕ → Details → Row
row_of table zone id d = record { id = since1970 id; start = utc_start table zone d; end = utc_end table zone d; marks = marks_of zone d }

-- The records of a list of occurrences.
unfoldable pub rows_for : ZoneTable → Event → List ℕ → List Row
rows_for table e xs = map (λ x. row_of table e.zone x (details_at e x)) xs

-- "A secret event has no records, only the trailer."
unfoldable pub listed : Event → Privacy → ℕ → ℕ → List ℕ
listed e Public from to = occurrences e from to
listed e Private from to = occurrences e from to
listed e Secret from to = []

-- The records of a window.
unfoldable pub rows_in : ZoneTable → Event → ℤ → ℤ → List Row
rows_in table e from to = rows_for table e (listed e e.privacy (since1600 from) (since1600 to))

-- The version that is written: "version 1 (2)".
abbrev pub written_version : ℕ
written_version = 1

unfoldable pub table_of : ZoneTable → Event → ℤ → ℤ → List ℕ
table_of table e from to = sheet_of written_version (rows_in table e from to)
