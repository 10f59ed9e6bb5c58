-- What a call keeps of an accepted event stands for it.
use Rattle.std.specs.Prelude.{ℕ, ◌<◌, ◌≤◌, ◌^◌, Bool, List, ◌≡◌, length, take}
use Rattle.rule.specs.Gives.{end_day}
use Rattle.matcher.specs.Inner.Layout.{lists_size}
use Rattle.event.specs.Event.{event_of}
use Rattle.override_text.specs.Inner.Meaning.{details_in}
use Rattle.event_text.specs.declared.Head.{Head}
use Rattle.event_text.specs.Inner.Taken.{Taken}
use Rattle.dates.specs.Inner.Dates.{kept_dates, Whole}
use Rattle.dates.specs.Inner.Stands.{Stands}
use Rattle.window.specs.Inner.Sorted.{Ordered}
use Rattle.call_definitions.specs.Occurrence.{dates_of, details_at}
use Rattle.call_definitions.specs.Utc.{is_floating}
use Rattle.record.specs.Inner.Utc.{times_of}
use Rattle.record.specs.Inner.Occurrences.{Small}
use Rattle.writer.specs.Inner.Details.{details_by}
use Rattle.loading.specs.declared.Kept.{Kept}

-- An accepted text is loaded up to a day, into slices of these lengths.
pub record Loadable (s t : List ℕ) (h : Head) (limit rows ids gone places : ℕ) : Type 0 where
  pub taken : Taken s t h
  pub within : limit ≤ end_day
  pub row_room : rows ≡ lists_size
  pub ids_room : 256 ≤ ids
  pub gone_room : 256 ≤ gone
  pub places_room : 256 ≤ places

-- Its dates before the day `limit` are the event's, and so are the details of every occurrence. The overrides are the first `count` of each slice.
pub record Loads (s : List ℕ) (limit : ℕ) (rows : List Bool) (ids : List ℕ) (gone : List Bool) (places : List ℕ) (r : Kept) : Type 0 where
  pub few : r.count ≤ 256
  pub ids_fit : r.count ≤ length ids
  pub gone_fit : r.count ≤ length gone
  pub places_fit : r.count ≤ length places
  pub whole : Whole r.dates (length rows) (length (take r.count ids)) (length (take r.count gone))
  pub stands : Stands (dates_of (event_of s)) limit (kept_dates r.dates rows (take r.count ids) (take r.count gone))
  pub details : (x : ℕ) → details_by s (details_in s r.form.own) (take r.count ids) (take r.count places) x ≡ details_at (event_of s) x
  pub floating : r.form.floating ≡ is_floating (event_of s).zone
  pub small : (x : ℕ) → x < 2 ^ 60 → Small x (times_of r.form.floating (details_by s (details_in s r.form.own) (take r.count ids) (take r.count places) x))
  pub sorted : Ordered (take r.count ids) r.form.sorted
