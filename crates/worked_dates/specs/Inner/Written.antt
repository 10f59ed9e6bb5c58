-- How the cases are written.
use Rattle.std.specs.Prelude.{ℕ, ◌+◌, ◌*◌, true, false, List, [], ◌∷◌, map}
use Rattle.std.proofs.Math.Option.{Option, none, some}
use lib.IntN.{ℤ}
use Rattle.gregorian.specs.Days.{day_of}
use Rattle.rule.specs.declared.Frequency.{Frequency}
use Rattle.rule.specs.Written.{RecurrenceRule}
use Rattle.sheet.specs.Records.{Row}
use Rattle.sheet.specs.Writing.{sheet_of}
use Rattle.keywords.specs.declared.Privacy.TheVariants.{Public}
use Rattle.event.specs.Types.{Length, Details, Override, Event}
use Rattle.call_definitions.specs.Window.{since1970}
use Rattle.call_definitions.specs.Utc.{ZoneTable}
use Rattle.call_definitions.specs.Bytes.{written_version}

-- A zone table, an event, and the bytes of the table of its occurrences in the widest window.
pub record Case : Type 0 where
  pub zones : ZoneTable
  pub event : Event
  pub table : List ℕ

-- ---- events

-- Midnight of a date, in seconds from 1600-01-01T00:00:00.
unfoldable pub on : ℕ → ℕ → ℕ → ℕ
on y m d = 86400 * day_of (record { year = y; month = m; day = d })

-- A length by its two parts: weeks and days, in days; hours, minutes and seconds, in seconds.
unfoldable pub length_of : ℕ → ℕ → Length
length_of days seconds = record { days = days; seconds = seconds }

unfoldable pub lasting : ℕ → Length → Details
lasting start size = record { start = start; length = size; busy = true; all_day = false; title = none; description = none }

unfoldable pub event_of : Option (List ℕ) → ℕ → Length → List RecurrenceRule → List RecurrenceRule → List Override → Event
event_of zone start size rules excluded overrides =
    record { zone = zone; privacy = Public; details = lasting start size; rules = rules; excluded_rules = excluded; overrides = overrides }

-- A rule of this frequency and interval, first day of the week, days, days of the month, positions and count.
unfoldable pub rule : Frequency → ℕ → ℕ → List ℕ → List ℤ → List ℤ → Option ℕ → RecurrenceRule
rule f n week days month_days positions count =
    record {
      frequency = f;
      interval = n;
      first_day_of_week = week;
      by_day = map (λ d. record { day = d; nth_of_period = none }) days;
      by_month_day = month_days;
      by_month = [];
      by_set_position = positions;
      until = none;
      count = count;
    }

-- ---- records

unfoldable pub row : ℤ → ℤ → ℤ → ℕ → Row
row id start end marks = record { id = id; start = start; end = end; marks = marks }

-- The record of a floating event of no length at this date-time: busy and floating.
unfoldable pub floating_row : ℕ → Row
floating_row x = row (since1970 x) (since1970 x) (since1970 x) 5

-- ---- cases

unfoldable pub no_zone : ZoneTable
no_zone = record { name = []; initial = lib.IntN.pos 0; instants = []; offsets = [] }

-- A floating event of no length that occurs at these date-times.
unfoldable pub dated : Event → List ℕ → Case
dated e xs = record { zones = no_zone; event = e; table = sheet_of written_version (map floating_row xs) }

unfoldable pub ruled : ℕ → RecurrenceRule → List ℕ → Case
ruled start r xs = dated (event_of none start (length_of 0 0) (r ∷ []) [] []) xs

-- A single event in a zone: its local start, from 1600, and its length; the local start, from 1970, and the start and the end in UTC.
unfoldable pub ending : ZoneTable → ℕ → Length → ℤ → ℤ → ℤ → Case
ending zones start size local utc end =
    record { zones = zones; event = event_of (some zones.name) start size [] [] []; table = sheet_of written_version (row local utc end 1 ∷ []) }

-- One of no length.
unfoldable pub timed : ZoneTable → ℕ → ℤ → ℤ → Case
timed zones start local utc = ending zones start (length_of 0 0) local utc utc
