-- What the callers of `load` use: what it keeps meets the writer's demands, and gives the event's table and occurrences.
use Prim.Native.Nat.{ℕ, ◌*◌, ◌/◌, ◌<◌, ◌≤◌}
use mathlib.Core.Bool.{Bool, true}
use mathlib.Core.List.{List}
use mathlib.Core.Path.{◌≡◌, sym, ◌∙◌}
use lib.IntN.{ℤ}
use lib.ListN.{take}
use lib.Seq.{length-take-le}
use Rattle.zone.specs.Table.{valid_table}
use Rattle.sheet.specs.Writing.{sheet_of}
use Rattle.event.specs.Event.{event_of}
use Rattle.override_text.specs.Inner.Meaning.{details_in}
use Rattle.event_text.specs.declared.Head.{Head}
use Rattle.event_text.specs.Inner.Taken.{Taken}
use Rattle.call_definitions.specs.Bytes.{rows_for, written_version}
use Rattle.call_definitions.specs.Occurrence.{dates_of, is_occurrence, occurrences}
use Rattle.call_definitions.specs.Results.{zones_of}
use Rattle.dates.specs.Inner.Dates.{kept_dates, dates_in}
use Rattle.dates.proofs.SetLaws.{in-set}
use Rattle.writer.specs.Inner.Details.{details_by, row_by}
use Rattle.writer.specs.Inner.Table.{table_by}
use Rattle.writer.specs.Inner.Writes.{Writes}
use Rattle.writer.proofs.EventLaws.{table_is}
use Rattle.loading.specs.Inner.Loads.{Loads}
use Rattle.loading.specs.declared.Kept.{Kept}

module _ (s : List ℕ) (limit : ℕ) (rows : List Bool) (ids : List ℕ) (gone : List Bool) (places : List ℕ) (r : Kept) (l : Loads s limit rows ids gone places r) where
  module _ (b : ℤ) (ts ns : List ℤ) where
    pub loads-writes : (t : List ℕ) (h : Head) → Taken s t h → valid_table b ts ns ≡ true
        → Writes s t r.form (take r.count ids) (take r.count places) b ts ns
    loads-writes t h k valid =
        record {
          ends = k.ends;
          sorted = l.sorted;
          even = length-take-le r.count ids l.ids_fit ∙ sym (length-take-le r.count places l.places_fit);
          valid = valid;
          small = l.small;
        }

    -- The rows of what is kept are the event's table, in a window that ends no later than the day `limit`.
    pub loads-table : (name : List ℕ) (from to : ℕ) → from ≤ to → to ≤ 86400 * limit
        → table_by (row_by r.form.floating b ts ns (details_by s (details_in s r.form.own) (take r.count ids) (take r.count places)))
        (dates_in r.dates rows (take r.count ids) (take r.count gone)) from to
        ≡ sheet_of written_version (rows_for (zones_of name b ts ns) (event_of s) (occurrences (event_of s) from to))
    loads-table name from to order within =
        table_is (zones_of name b ts ns) (event_of s) (details_by s (details_in s r.form.own) (take r.count ids) (take r.count places)) l.details
        r.form.floating l.floating from to order limit (kept_dates r.dates rows (take r.count ids) (take r.count gone)) l.stands within

  pub loads-occurs : (x : ℕ) → x / 86400 < limit
      → dates_in r.dates rows (take r.count ids) (take r.count gone) x ≡ is_occurrence (event_of s) x
  unfolding is_occurrence
  loads-occurs x before =
      in-set (dates_of (event_of s)) limit (kept_dates r.dates rows (take r.count ids) (take r.count gone)) l.stands x before
