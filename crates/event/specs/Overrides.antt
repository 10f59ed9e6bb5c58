-- 01, "Reading the event": `recurrenceOverrides`.
use Rattle.std.specs.Prelude.{if◌then◌else◌, ℕ, Bool, true, false, ◌||◌, ◌&&◌, not, List, [], ◌∷◌, ◌++◌, eqb}
use Rattle.std.proofs.Math.Option.{Option, none, some}
use Rattle.fault.specs.declared.Fault.{Fault}
use Rattle.fault.specs.Fault.{faults_at, all_of}
use Rattle.json_walk.specs.Strings.{same}
use Rattle.json_tree.specs.Tree.{Json, Fields, no_field, field, place_of}
use Rattle.json_text.specs.Ascii.{ascii}
use Rattle.event.specs.Values.{is_null, object, member}
use Rattle.event.specs.Types.{Details, Override}
use Rattle.event.specs.Reading.{Reading, right, Judged, fine, placed, inside, limited}
use Rattle.event.specs.Properties.{no_length, read_start, read_length, read_busy, read_boolean, read_text, date_time}

-- A patched property: the event's own where the patch has none; "Null means the default or no words".
unfoldable pub patched : {A : Type 0} → A → A → (Json → Reading A) → Option Json → Reading A
patched own default f none = right own
patched own default f (some v) = if is_null v then right default else f v

-- "for `start` null answers 6": a null is no LocalDateTime.
unfoldable pub patched_start : ℕ → Option Json → Reading ℕ
patched_start id none = right id
patched_start id (some v) = read_start v

-- "A patch of `timeZone`, or any name with `/` or `~`, answers 8."
unfoldable pub has_mark : List ℕ → Bool
has_mark [] = false
has_mark (b ∷ raw) = eqb b 0x2F || (eqb b 0x7E || has_mark raw)

-- A name stands at `at`.
unfoldable pub name_fault : ℕ → List ℕ → List Fault
name_fault at name = if same name (ascii "timeZone") || has_mark name then faults_at 8 at else []

unfoldable pub name_faults : Fields → List Fault
name_faults no_field = []
name_faults (field at name v fields) = name_fault at name ++ name_faults fields

-- 7: "`excluded` true beside any other member"
unfoldable pub alone : Fields → Bool
alone no_field = true
alone (field at name v no_field) = true
alone (field at name v (field at2 name2 v2 fields)) = false

unfoldable pub excluded_fault : ℕ → Bool → Fields → List Fault
excluded_fault at excluded fields = if excluded && not (alone fields) then faults_at 7 at else []

-- The details of the occurrence id after a patch of the event's own, which stands at `at`.
unfoldable pub patch_in : Details → ℕ → ℕ → Fields → Judged Override
patch_in own id at fields =
    let start = placed at (patched_start id) (member (ascii "start") fields) in
    let length = placed at (patched own.length no_length read_length) (member (ascii "duration") fields) in
    let busy = placed at (patched own.busy true read_busy) (member (ascii "freeBusyStatus") fields) in
    let all_day = placed at (patched own.all_day false read_boolean) (member (ascii "showWithoutTime") fields) in
    let title = placed at (patched own.title none read_text) (member (ascii "title") fields) in
    let description = placed at (patched own.description none read_text) (member (ascii "description") fields) in
    let excluded = placed at (patched false false read_boolean) (member (ascii "excluded") fields) in
    record {
      value = record {
        id = id;
        excluded = excluded.value;
        details = record {
          start = start.value;
          length = length.value;
          busy = busy.value;
          all_day = all_day.value;
          title = title.value;
          description = description.value;
        };
      };
      faults =
          all_of (start.faults ∷ length.faults ∷ busy.faults ∷ all_day.faults ∷ title.faults ∷ description.faults ∷ excluded.faults
          ∷ excluded_fault at excluded.value fields ∷ name_faults fields ∷ []);
    }

-- "an object of LocalDateTime names and patch objects". 02, 4: "an override name being a value too": it stands at `at`.
unfoldable pub override_of : Details → ℕ → List ℕ → Json → Judged Override
override_of own at name patch =
    let id = date_time name in
    let over = inside (record { id = id.value; excluded = false; details = own }) (place_of patch) (patch_in own id.value (place_of patch)) (object patch) in
    record { value = over.value; faults = faults_at id.fault at ++ over.faults }

unfoldable pub overrides_in : Details → Fields → Judged (List Override)
overrides_in own no_field = fine []
overrides_in own (field at name patch fields) =
    let one = override_of own at name patch in
    let rest = overrides_in own fields in
    record { value = one.value ∷ rest.value; faults = one.faults ++ rest.faults }

-- 9: over "256 overrides"
unfoldable pub read_overrides : Details → Json → Judged (List Override)
read_overrides own v = inside [] (place_of v) (λ fields. limited 256 (place_of v) (overrides_in own fields)) (object v)
