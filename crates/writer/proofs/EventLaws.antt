-- The table over what the code keeps of an event is the event's table by the definitions.
use Prim.Native.Nat.{ℕ, ◌*◌, ◌≤◌}
use mathlib.Core.Bool.{Bool}
use mathlib.Core.List.{List, map}
use mathlib.Core.Path.{◌≡◌, sym, ap, ◌∙◌}
use Rattle.dates.specs.Inner.Loaded.{Loaded, is_in}
use Rattle.dates.specs.Inner.Stands.{Stands}
use Rattle.sheet.specs.Records.{Row}
use Rattle.sheet.specs.Writing.{sheet_of}
use Rattle.event.specs.Types.{Details, Event}
use Rattle.call_definitions.specs.Occurrence.{dates_of, occurrences, details_at}
use Rattle.call_definitions.specs.Utc.{ZoneTable, is_floating}
use Rattle.call_definitions.specs.Bytes.{row_of, rows_for, written_version}
use Rattle.record.proofs.OccurrenceLaws.{occurrence-row}
use Rattle.window.proofs.ListLaws.{ids-loaded}
use Rattle.writer.specs.Inner.Details.{row_by}
use Rattle.writer.specs.Inner.Table.{table_by}

module _ (zones : ZoneTable) (e : Event) (details : ℕ → Details) (known : (x : ℕ) → details x ≡ details_at e x) (floating : Bool)
    (floats : floating ≡ is_floating e.zone) where
  row : ℕ → Row
  row = row_by floating zones.initial zones.instants zones.offsets details

  row_is : (x : ℕ) → row x ≡ row_of zones e.zone x (details_at e x)
  unfolding row row_by
  row_is x =
      rw (floats, known x) (sym (occurrence-row zones e.zone x (details_at e x)))

  module _ (from to : ℕ) (order : from ≤ to) (limit : ℕ) (l : Loaded) (stands : Stands (dates_of e) limit l) (within : to ≤ 86400 * limit) where
    pub table_is : table_by (row_by floating zones.initial zones.instants zones.offsets details) (is_in l) from to
        ≡ sheet_of written_version (rows_for zones e (occurrences e from to))
    unfolding table_by rows_for occurrences row
    table_is =
        ap (λ (xs : List ℕ). sheet_of written_version (map row xs)) (sym (ids-loaded (dates_of e) from to order limit l stands within))
        ∙ (λ i. sheet_of written_version (map (λ x. row_is x i) (occurrences e from to)))
