-- The definitions' event but for its lists: they stand as values of the tree, and are read apart.
use Rattle.std.specs.Prelude.{ℕ, true, List, [], ◌∷◌, length}
use Rattle.std.proofs.Math.Option.{Option, none, some}
use Rattle.fault.specs.declared.Fault.{Fault}
use Rattle.fault.specs.Fault.{First, all_of, first}
use Rattle.json_tree.specs.Tree.{Json, Fields, no_field, place_of, text_tree}
use Rattle.keywords.specs.declared.Privacy.{Privacy}
use Rattle.keywords.specs.declared.Privacy.TheVariants.{Public}
use Rattle.json_text.specs.Ascii.{ascii}
use Rattle.event.specs.Event.{details_in}
use Rattle.event.specs.Properties.{read_uid, read_updated, read_zone, read_privacy}
use Rattle.event.specs.Reading.{optional, required, placed, present, unsupported}
use Rattle.event.specs.Overrides.{read_overrides}
use Rattle.event.specs.Rules.{read_rules}
use Rattle.event.specs.Types.{Details, Event}
use Rattle.event.specs.Values.{object, member}

pub record Front : Type 0 where
  pub zone : Option (List ℕ)
  pub privacy : Privacy
  pub details : Details
  pub rules : Option Json
  pub excluded_rules : Option Json
  pub overrides : Option Json
  -- the fault that decides in all that is read but the three lists
  pub fault : First

-- The object stands at `at`.
unfoldable pub front_in : ℕ → Fields → Front
front_in at fields =
    let uid = placed at (required [] read_uid) (member (ascii "uid") fields) in
    let updated = placed at (required true read_updated) (member (ascii "updated") fields) in
    let zone = placed at (optional none read_zone) (member (ascii "timeZone") fields) in
    let privacy = placed at (optional Public read_privacy) (member (ascii "privacy") fields) in
    let details = details_in at fields in
    record {
      zone = zone.value;
      privacy = privacy.value;
      details = details.value;
      rules = member (ascii "recurrenceRules") fields;
      excluded_rules = member (ascii "excludedRecurrenceRules") fields;
      overrides = member (ascii "recurrenceOverrides") fields;
      fault =
          first (all_of (uid.faults ∷ updated.faults ∷ zone.faults ∷ privacy.faults ∷ details.faults
          ∷ unsupported (member (ascii "recurrenceId") fields) ∷ []));
    }

-- The front of a text's value: a value that is no object is read as one without members at the end of the text.
abbrev pub front_from : List ℕ → Option Fields → Front
front_from s none = front_in (length s) no_field
front_from s (some fields) = front_in (place_of (text_tree s)) fields

unfoldable pub front_of : List ℕ → Front
front_of s = front_from s (object (text_tree s))

-- The levels of a value that stands in the text's object.
abbrev pub inner : ℕ
inner = 15

-- The event of a front: its lists are read.
unfoldable pub event_with : Front → Event
event_with f =
    record {
      zone = f.zone;
      privacy = f.privacy;
      details = f.details;
      rules = (present [] read_rules f.rules).value;
      excluded_rules = (present [] read_rules f.excluded_rules).value;
      overrides = (present [] (read_overrides f.details) f.overrides).value;
    }

-- The faults of the three lists.
unfoldable pub lists_faults : Front → List Fault
lists_faults f =
    let rules = (present [] read_rules f.rules).faults in
    let excluded = (present [] read_rules f.excluded_rules).faults in
    let overrides = (present [] (read_overrides f.details) f.overrides).faults in
    all_of (rules ∷ excluded ∷ overrides ∷ [])
