-- The properties of the patch at a place of a text, and the whole patch. Its fields' values are trees so many levels deep.
use Rattle.std.specs.Prelude.{ℕ, suc, Bool, true, false, List, ◌≡◌, Some, None}
use Rattle.std.proofs.Math.Option.{Option, none}
use Rattle.json_tree.specs.Tree.{Json, place_of, tree_at}
use Rattle.json_text.specs.Ascii.{ascii}
use Rattle.event.specs.Types.{Text, Length, Details, Override}
use Rattle.event.specs.Values.{is_null, member, object}
use Rattle.event.specs.Reading.{Reading, Judged, inside}
use Rattle.event.specs.Properties.{no_length, read_length, read_busy, read_boolean, read_text}
use Rattle.event.specs.Overrides.{patched, patched_start, patch_in}
use Rattle.property.specs.Inner.From.{fields_in}
use Rattle.property.specs.Inner.Place.{Place}

-- What a patch makes of a property, by the place of its value, if there is one: the own, the default where null stands there, or what is read.
abbrev pub Chosen : {T : Type 0} → ℕ → List ℕ → Place → T → T → (ℕ → T → Type 0) → T → Type 0
Chosen l s None own default Reads r = r ≡ own
Chosen l s (Some i) own default Reads r =
    (is_null (tree_at l s i) ≡ true → r ≡ default) × (is_null (tree_at l s i) ≡ false → Reads i r)

abbrev pub start_in : ℕ → ℕ → List ℕ → ℕ → Reading ℕ
start_in l id s at = patched_start id (member (ascii "start") (fields_in l s at))

abbrev pub length_in : ℕ → Length → List ℕ → ℕ → Reading Length
length_in l own s at = patched own no_length read_length (member (ascii "duration") (fields_in l s at))

abbrev pub busy_in : ℕ → Bool → List ℕ → ℕ → Reading Bool
busy_in l own s at = patched own true read_busy (member (ascii "freeBusyStatus") (fields_in l s at))

abbrev pub flag_in : ℕ → List ℕ → Bool → List ℕ → ℕ → Reading Bool
flag_in l name own s at = patched own false read_boolean (member name (fields_in l s at))

abbrev pub text_for : ℕ → List ℕ → Option Text → List ℕ → ℕ → Reading (Option Text)
text_for l name own s at = patched own none read_text (member name (fields_in l s at))

-- "patch objects": what an override has of a value, and of the one at a place.
abbrev pub patch_of : Details → ℕ → Json → Judged Override
patch_of own id v = inside (record { id = id; excluded = false; details = own }) (place_of v) (patch_in own id (place_of v)) (object v)

abbrev pub patch_at : ℕ → Details → ℕ → List ℕ → ℕ → Judged Override
patch_at l own id s at = patch_of own id (tree_at (suc l) s at)
