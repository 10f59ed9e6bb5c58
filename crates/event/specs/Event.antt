-- 01, "Reading the event": the event of a text that is past answers 1 to 4, all its faults, and the one of 5 to 9 that is given. 02, 4: 20 to 26 for 6.
use Rattle.std.specs.Prelude.{if◌then◌else◌, ℕ, Bool, true, false, not, ◌||◌, List, [], ◌∷◌, Some}
use Rattle.std.proofs.Math.Option.{Option, none, some}
use Rattle.fault.specs.declared.Fault.{Fault}
use Rattle.fault.specs.Fault.{all_of, first, first_number, first_place, First, a_fault}
use Rattle.json_tree.specs.Tree.{Json, Fields, place_of, text_tree}
use Rattle.keywords.specs.declared.Privacy.TheVariants.{Public}
use Rattle.json_text.specs.Ascii.{ascii}
use Rattle.event.specs.Values.{object, member, is_type}
use Rattle.event.specs.Types.{Details, Event}
use Rattle.event.specs.Reading.{optional, required, Judged, placed, present, unsupported}
use Rattle.event.specs.Properties.{no_length, read_uid, read_updated, read_start, read_zone, read_length, read_busy, read_boolean, read_privacy, read_text}
use Rattle.event.specs.Rules.{read_rules}
use Rattle.event.specs.Overrides.{read_overrides}

unfoldable pub missing : Option Json → Bool
missing none = true
missing (some v) = false

-- 5: "`@type` is not `Event`; `uid`, `updated` or `start` is missing"
unfoldable pub no_event : Fields → Bool
no_event fields =
    not (is_type (ascii "Event") (member (ascii "@type") fields))
    || (missing (member (ascii "uid") fields) || (missing (member (ascii "updated") fields) || missing (member (ascii "start") fields)))

-- The event's own details. Its start is read once for all. The object stands at `at`.
unfoldable pub details_in : ℕ → Fields → Judged Details
details_in at fields =
    let start = placed at (required 0 read_start) (member (ascii "start") fields) in
    let length = placed at (optional no_length read_length) (member (ascii "duration") fields) in
    let busy = placed at (optional true read_busy) (member (ascii "freeBusyStatus") fields) in
    let all_day = placed at (optional false read_boolean) (member (ascii "showWithoutTime") fields) in
    let title = placed at (optional none read_text) (member (ascii "title") fields) in
    let description = placed at (optional none read_text) (member (ascii "description") fields) in
    record {
      value = record {
        start = start.value;
        length = length.value;
        busy = busy.value;
        all_day = all_day.value;
        title = title.value;
        description = description.value;
      };
      faults = all_of (start.faults ∷ length.faults ∷ busy.faults ∷ all_day.faults ∷ title.faults ∷ description.faults ∷ []);
    }

-- Stands in for the event of a text that is no object.
abbrev pub nothing : Event
nothing =
    record {
      zone = none;
      privacy = Public;
      details = record { start = 0; length = no_length; busy = true; all_day = false; title = none; description = none };
      rules = [];
      excluded_rules = [];
      overrides = [];
    }

unfoldable pub event_in : ℕ → Fields → Judged Event
event_in at fields =
    let uid = placed at (required [] read_uid) (member (ascii "uid") fields) in
    let updated = placed at (required true read_updated) (member (ascii "updated") fields) in
    let zone = placed at (optional none read_zone) (member (ascii "timeZone") fields) in
    let privacy = placed at (optional Public read_privacy) (member (ascii "privacy") fields) in
    let details = details_in at fields in
    let rules = present [] read_rules (member (ascii "recurrenceRules") fields) in
    let excluded = present [] read_rules (member (ascii "excludedRecurrenceRules") fields) in
    let overrides = present [] (read_overrides details.value) (member (ascii "recurrenceOverrides") fields) in
    record {
      value = record {
        zone = zone.value;
        privacy = privacy.value;
        details = details.value;
        rules = rules.value;
        excluded_rules = excluded.value;
        overrides = overrides.value;
      };
      faults =
          all_of (uid.faults ∷ updated.faults ∷ zone.faults ∷ privacy.faults ∷ details.faults
          ∷ unsupported (member (ascii "recurrenceId") fields)
          ∷ rules.faults ∷ excluded.faults ∷ overrides.faults ∷ []);
    }

-- Every fault of a text's value that is read; a value that is no object has none.
unfoldable pub faults_in : ℕ → Option Fields → List Fault
faults_in at none = []
faults_in at (some fields) = (event_in at fields).faults

unfoldable pub faults_of : List ℕ → List Fault
faults_of s = faults_in (place_of (text_tree s)) (object (text_tree s))

-- 5: "the value is no object", or one that is no event.
unfoldable pub is_no_event : Option Fields → Bool
is_no_event none = true
is_no_event (some fields) = no_event fields

-- "Where 5 applies, 6 to 9 are not judged". What decides of a text that is past 1 to 4: 5, or the fault of its list that does, or none.
unfoldable pub event_first : List ℕ → First
event_first s = let others = first (faults_of s) in if is_no_event (object (text_tree s)) then Some (a_fault 5 0) else others

-- 5, 7 to 9 or 20 to 26, and 0 where there is none; and the place that 20 to 26 carry.
unfoldable pub event_fault : List ℕ → ℕ
event_fault s = first_number (event_first s)

unfoldable pub event_place : List ℕ → ℕ
event_place s = first_place (event_first s)

-- The event of a text that is past 1 to 9.
unfoldable pub event_from : ℕ → Option Fields → Event
event_from at none = nothing
event_from at (some fields) = (event_in at fields).value

unfoldable pub event_of : List ℕ → Event
event_of s = event_from (place_of (text_tree s)) (object (text_tree s))
