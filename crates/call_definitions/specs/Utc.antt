-- When an occurrence starts and ends in UTC: 01, "Zone table and UTC", and request 2 of document 02.
use Rattle.std.specs.Prelude.{ℕ, ◌+◌, ◌*◌, Bool, true, false, List, ℤ, pos, ◌+ℤ◌}
use Rattle.std.proofs.Math.Option.{Option, none, some}
use Rattle.zone.specs.Lookup.{utc_at}
use Rattle.event.specs.Types.{Details}
use Rattle.call_definitions.specs.Window.{since1970}

-- A zone table as it is lent: its name, the initial offset, the entries' instants and the offsets from then on.
pub record ZoneTable : Type 0 where
  pub name : List ℕ
  pub initial : ℤ
  pub instants : List ℤ
  pub offsets : List ℤ

abbrev pub is_floating : Option (List ℕ) → Bool
is_floating none = true
is_floating (some zone) = false

-- "floating uses 0 and the name is not compared"
unfoldable pub utc_of : ZoneTable → Option (List ℕ) → ℤ → ℤ
utc_of table none local = local
utc_of table (some zone) local = utc_at table.initial table.instants table.offsets local

unfoldable pub utc_start : ZoneTable → Option (List ℕ) → Details → ℤ
utc_start table zone d = utc_of table zone (since1970 d.start)

-- Source document 004: "Add any week or day components of the duration to the date." Local time is counted without jumps, so that the same time
-- of day is 86,400 seconds of that count later on the next date.
unfoldable pub days_later : ℕ → ℕ → ℕ
days_later local days = local + 86400 * days

-- Request 2: "add weeks and days to the local start, convert to UTC, add the hours, minutes and seconds as absolute time". "Where a jump puts the
-- end before the start, it is written as calculated."
unfoldable pub utc_end : ZoneTable → Option (List ℕ) → Details → ℤ
utc_end table zone d = utc_of table zone (since1970 (days_later d.start d.length.days)) +ℤ pos d.length.seconds
