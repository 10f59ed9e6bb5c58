-- Ids by listed days: of events with one rule that goes by months, none excluded, and no override.
use Rattle.std.specs.Prelude.{if◌then◌else◌, ℕ, ◌*◌, ◌/◌, ◌≤◌, Bool, List, map, ◌≡◌, ltb, length, take, get_or}
use Rattle.rule.specs.Gives.{on_day}
use Rattle.matcher.specs.Inner.Layout.{row_size}
use Rattle.track.specs.declared.Track.{Track}
use Rattle.dates.specs.declared.Dates.{Dates}
use Rattle.dates.specs.Inner.Dates.{Whole, dates_in}
use Rattle.window.specs.Inner.Next.{day_from}
use Rattle.window.specs.Inner.Handed.{Span, Handed}
use Rattle.listing.specs.Inner.Lists.{start_or}
use Rattle.listing.specs.Inner.Parts.{ByMonths}
use Rattle.listing.specs.Inner.Chunks.{Stopped}

-- One rule, which goes by months, and none excluded.
pub record Plain (d : Dates) (rows : List Bool) : Type 0 where
  pub one : d.rules.count ≡ 1
  pub none : d.excluded.count ≡ 0
  pub by_months : (other : Track) → ByMonths (get_or d.rules.list 0 other).terms (take row_size rows)

-- A window of such an event, and a slice with room for a month and more.
pub record Listing (d : Dates) (rows : List Bool) (from to places : ℕ) : Type 0 where
  pub plain : Plain d rows
  pub whole : Whole d (length rows) 0 0
  pub span : Span from to
  pub room : 32 ≤ places

-- The days of the window that the start or the only rule gives, before the day that was reached.
pub record ListedWindow (d : Dates) (rows : List Bool) (from to : ℕ) (before after : List ℕ) (count next : ℕ) : Type 0 where
  pub size : length after ≡ length before
  pub stopped : (other : Track)
      → Stopped (start_or (get_or d.rules.list 0 other) (take row_size rows) (d.start / 86400)) (day_from d.start from) (day_from d.start to) before 0 after count next

-- Days at the start's time of day stand at the front of a slice.
pub record Seconds (start : ℕ) (days before after : List ℕ) : Type 0 where
  pub size : length after ≡ length before
  pub ids : take (length days) after ≡ map (on_day start) days

-- The ids of an event without overrides.
pub record HandedUnnamed (d : Dates) (rows : List Bool) (from to : ℕ) (before after : List ℕ) (count next : ℕ) : Type 0 where
  pub size : length after ≡ length before
  pub handed : (ids : List ℕ) (gone : List Bool) → length ids ≡ 0 → Handed (dates_in d rows ids gone) from to before after count next

-- The second to go on from: `to` where the listing reached its last day, else the midnight of the day that it reached.
unfoldable pub goes_on : ℕ → ℕ → ℕ → ℕ
goes_on start to next = if ltb next (day_from start to) then 86400 * next else to
