-- The table of an event that is not secret, over seconds from 1600.
use Rattle.std.specs.Prelude.{ℕ, true, List, ◌≡◌, ℤ}
use Rattle.zone.specs.Table.{valid_table}
use Rattle.sheet.specs.Writing.{sheet_of}
use Rattle.event.specs.Types.{Event}
use Rattle.event_text.specs.declared.Head.{Head}
use Rattle.event_text.specs.Inner.Taken.{Taken}
use Rattle.window.specs.Inner.Handed.{Span}
use Rattle.call_definitions.specs.Occurrence.{occurrences}
use Rattle.call_definitions.specs.Utc.{ZoneTable}
use Rattle.call_definitions.specs.Bytes.{rows_for, written_version}

unfoldable pub table_for : ZoneTable → Event → ℕ → ℕ → List ℕ
table_for zones e from to = sheet_of written_version (rows_for zones e (occurrences e from to))

-- The text is accepted, and none of 10 to 12 applies to the call.
pub record Visible (s t : List ℕ) (h : Head) (initial : ℤ) (instants offsets : List ℤ) (from to : ℕ) : Type 0 where
  pub taken : Taken s t h
  pub valid : valid_table initial instants offsets ≡ true
  pub span : Span from to
