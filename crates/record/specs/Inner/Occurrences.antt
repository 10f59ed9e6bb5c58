-- The record of one occurrence by the values that the code has of it.
use Rattle.std.specs.Prelude.{ℕ, ◌+◌, ◌<◌, ◌≤◌, ◌^◌, true, List, ◌≡◌, ℤ}
use Rattle.zone.specs.Table.{valid_table}
use Rattle.sheet.specs.Records.{Row}
use Rattle.call_definitions.specs.Window.{since1970}
use Rattle.record.specs.declared.Times.{Times}
use Rattle.record.specs.Inner.Rows.{marks_for}
use Rattle.record.specs.Inner.Utc.{start_by, end_by, Brief}

unfoldable pub occurrence_row : ℤ → List ℤ → List ℤ → ℕ → Times → Row
occurrence_row initial instants offsets id t =
    record {
      id = since1970 id;
      start = start_by initial instants offsets t;
      end = end_by initial instants offsets t;
      marks = marks_for t.busy t.allday t.floating;
    }

pub record Small (id : ℕ) (t : Times) : Type 0 where
  pub id_small : id < 2 ^ 60
  pub brief : Brief t

-- A record fits into a buffer of a size at a place, its zone table is valid, and there are two hints.
pub record PutsRecord (size at id : ℕ) (t : Times) (initial : ℤ) (instants offsets : List ℤ) (hints : ℕ) : Type 0 where
  pub room : at + 28 ≤ size
  pub valid : valid_table initial instants offsets ≡ true
  pub small : Small id t
  pub two : hints ≡ 2
