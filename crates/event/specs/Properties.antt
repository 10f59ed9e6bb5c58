-- 01, "Reading the event": the properties of an event, and of a patch.
use Rattle.std.specs.Prelude.{if◌then◌else◌, ℕ, Bool, true, false, List, [], ◌∷◌}
use Rattle.std.proofs.Math.Option.{Option, none, some}
use Rattle.json_tree.specs.Tree.{Json}
use Rattle.date_time.specs.declared.DateTime.{DateTime}
use Rattle.date_time.specs.declared.DateTime.TheVariants as local
use Rattle.date_time.specs.Local.{local_of}
use Rattle.date_time.specs.Utc.{is_utc}
use Rattle.duration.specs.declared.Span.{Span}
use Rattle.duration.specs.declared.Span.TheVariants as span
use Rattle.duration.specs.Length.{length_of}
use Rattle.keywords.specs.declared.FreeBusy.{FreeBusy}
use Rattle.keywords.specs.declared.FreeBusy.TheVariants as status
use Rattle.keywords.specs.declared.Privacy.{Privacy}
use Rattle.keywords.specs.declared.Privacy.TheVariants.{Private}
use Rattle.keywords.specs.Marks.{free_busy_of, privacy_of}
use Rattle.event.specs.Types.{Text, Length}
use Rattle.event.specs.Values.{is_null, boolean, string, of_word}
use Rattle.event.specs.Reading.{Reading, right, wrong, or_wrong}

-- "`uid`: at least one byte." 02, 4: one without is 26, "anything else".
unfoldable pub filled : List ℕ → Reading (List ℕ)
filled [] = wrong [] 26
filled (b ∷ raw) = right (b ∷ raw)

unfoldable pub read_uid : Json → Reading (List ℕ)
read_uid v = of_word [] filled v

-- "`updated` is a UTCDateTime". 02, 4: "bad date or time 21".
unfoldable pub read_updated : Json → Reading Bool
read_updated v = of_word true (λ raw. if is_utc raw then right true else wrong true 21) v

-- LocalDateTime, of a year to the given last: 21, or 8 where it has a legal fraction.
abbrev pub from_local : DateTime → Reading ℕ
from_local (local.At x) = right x
from_local (local.Fault n) = wrong 0 n

-- "year 1601 to 9998 (`until`: to 9999)"
unfoldable pub date_time : List ℕ → Reading ℕ
date_time raw = from_local (local_of 9998 raw)

unfoldable pub read_start : Json → Reading ℕ
read_start v = of_word 0 date_time v

unfoldable pub read_until : Json → Reading ℕ
read_until v = of_word 0 (λ raw. from_local (local_of 9999 raw)) v

-- "`timeZone`: absent or null is floating; else at least one byte."
unfoldable pub named : List ℕ → Reading (Option (List ℕ))
named [] = wrong none 26
named (b ∷ raw) = right (some (b ∷ raw))

unfoldable pub read_zone : Json → Reading (Option (List ℕ))
read_zone v = if is_null v then right none else of_word none named v

-- "`duration`: .. default zero". 02, 4: "bad duration 22", or 8 where it has a legal fraction.
abbrev pub no_length : Length
no_length = record { days = 0; seconds = 0 }

abbrev pub from_span : Span → Reading Length
from_span (span.Of d s) = right (record { days = d; seconds = s })
from_span (span.Fault n) = wrong no_length n

unfoldable pub read_length : Json → Reading Length
read_length v = of_word no_length (λ raw. from_span (length_of raw)) v

-- "`freeBusyStatus`: `free` or `busy`". 02, 4: "unknown word in a closed list .. 24".
abbrev pub from_status : FreeBusy → Reading Bool
from_status status.Free = right false
from_status status.Busy = right true
from_status (status.Fault n) = wrong true n

unfoldable pub read_busy : Json → Reading Bool
read_busy v = of_word true (λ raw. from_status (free_busy_of raw)) v

-- "`showWithoutTime`: boolean"
unfoldable pub read_boolean : Json → Reading Bool
read_boolean v = or_wrong false 20 right (boolean v)

-- "`privacy`: `public` (default), `private`, `secret`; any other string counts as private."
unfoldable pub read_privacy : Json → Reading Privacy
read_privacy v = of_word Private (λ raw. right (privacy_of raw)) v

-- "`title`, `description`: strings." They may have escapes.
unfoldable pub read_text : Json → Reading (Option Text)
read_text v = or_wrong none 20 (λ t. right (some t)) (string v)
