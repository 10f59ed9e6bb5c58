-- An occurrence's start and end in UTC, by the values that the code has of it.
use Rattle.std.specs.Prelude.{if◌then◌else◌, ◌+◌, ◌*◌, ◌<◌, ◌≤◌, ◌^◌, Bool, true, List, ◌≡◌, ℤ, pos, ◌+ℤ◌, ◌-ℤ◌}
use Rattle.zone.specs.Table.{valid_table}
use Rattle.zone.specs.Lookup.{offset_at}
use Rattle.event.specs.Types.{Details}
use Rattle.call_definitions.specs.Window.{since1970}
use Rattle.call_definitions.specs.Utc.{days_later}
use Rattle.record.specs.declared.Times.{Times}

-- What a record says of an occurrence with these details, of an event that floats or not.
unfoldable pub times_of : Bool → Details → Times
times_of floating d =
    record { start = d.start; days = d.length.days; seconds = d.length.seconds; busy = d.busy; allday = d.all_day; floating = floating }

-- "floating uses 0 and the name is not compared"
unfoldable pub offset_by : Bool → ℤ → List ℤ → List ℤ → ℤ → ℤ
offset_by floating initial instants offsets local = if floating then pos 0 else offset_at initial instants offsets local

abbrev pub local_start : Times → ℤ
local_start t = since1970 t.start

abbrev pub local_end : Times → ℤ
local_end t = since1970 (days_later t.start t.days)

unfoldable pub start_offset : ℤ → List ℤ → List ℤ → Times → ℤ
start_offset initial instants offsets t = offset_by t.floating initial instants offsets (local_start t)

unfoldable pub end_offset : ℤ → List ℤ → List ℤ → Times → ℤ
end_offset initial instants offsets t = offset_by t.floating initial instants offsets (local_end t)

-- "UTC is local minus offset"
unfoldable pub start_by : ℤ → List ℤ → List ℤ → Times → ℤ
start_by initial instants offsets t = local_start t -ℤ start_offset initial instants offsets t

unfoldable pub end_by : ℤ → List ℤ → List ℤ → Times → ℤ
end_by initial instants offsets t = (local_end t -ℤ end_offset initial instants offsets t) +ℤ pos t.seconds

-- Every date-time of the profile and every length is far smaller.
pub record Brief (t : Times) : Type 0 where
  pub start_small : t.start < 2 ^ 60
  pub length_small : 86400 * t.days + t.seconds ≤ 2 ^ 40

-- What the end is found from: the offset at the start, over a table that is valid.
pub record Started (t : Times) (before initial : ℤ) (instants offsets : List ℤ) : Type 0 where
  pub valid : valid_table initial instants offsets ≡ true
  pub brief : Brief t
  pub at_start : before ≡ start_offset initial instants offsets t

-- What the look for the offset at the end is given: the offset at the start, and the local end.
pub record Ending (t : Times) (before initial : ℤ) (instants offsets : List ℤ) (local : ℤ) : Type 0 where
  pub valid : valid_table initial instants offsets ≡ true
  pub at_start : before ≡ start_offset initial instants offsets t
  pub at_end : local ≡ local_end t
