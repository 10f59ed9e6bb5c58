-- The texts of an event are parts of the text that it was read from.
use Rattle.std.specs.Prelude.{if◌then◌else◌, Result, Ok, Err}
use Prim.Native.Nat.{ℕ, zero, suc, ◌+◌, ◌-◌, ◌≤◌}
use mathlib.Core.Bool.{Bool, true, false}
use mathlib.Core.List.{List, [], ◌∷◌}
use mathlib.Core.Option.{Option, none, some}
use mathlib.Core.Path.{◌≡◌, refl, sym, ap, subst}
use native.Mathlib.Omega.{arith}
use native.Mathlib.Numerals.{add-one}
use lib.Dec.{eqb}
use lib.ListN.{length, take, drop, get_or}
use lib.Seq.{drop-cons}
use Rattle.json_text.specs.Bytes.{byte, space_at}
use Rattle.json_text.specs.Strings.{string_at}
use Rattle.json_text.specs.declared.SyntaxError.{SyntaxError}
use Rattle.json_walk.specs.Strings.{bytes_at, raw_at, same}
use Rattle.json_value.specs.Values.{levels}
use Rattle.json_walk.specs.Walk.{members_of}
use Rattle.json_walk.specs.declared.Member.{Member}
use Rattle.json_walk.proofs.Laws.{length-bytes}
use Rattle.json_tree.specs.Finds
use Rattle.json_tree.specs.Finds.{look_up}
use Rattle.json_tree.specs.Tree.{Json, Items, Fields, no_field, no_item, field, place_of, end_of, scalar_tree, fields_of, tree_by, tree_at, text_tree}
use Rattle.property.specs.Inner.Words.{word_at}
use Rattle.property.proofs.Ends.{string-end}
use Rattle.property.proofs.Words.{raw-none, string-text}
use Rattle.json_text.specs.Ascii.{ascii}
use Rattle.event.specs.Types.{Text, Details, Override, Event}
use Rattle.event.specs.Values.{is_null, string, object, as_option, member}
use Rattle.event.specs.Reading.{Reading, or_wrong, optional, placed, inside, present, limited}
use Rattle.event.specs.Properties.{date_time, read_text}
use Rattle.event.specs.Overrides.{patched, patch_in, override_of, overrides_in, read_overrides}
use Rattle.event.specs.Event.{details_in, event_in, event_from, event_of}
use Rattle.call_definitions.specs.Occurrence.{override_at, with_start, patched_by, details_at}
use Rattle.event.proofs.ValueNumbers.{pick}

-- ---- the bytes of a string

bytes-part : (n : ℕ) (s : List ℕ) (i : ℕ) → i + n ≤ length s → take n (drop i s) ≡ bytes_at n s i
unfolding bytes_at
bytes-part zero s i h = refl
bytes-part (suc n) s i h =
    rw (drop-cons s i 0 (omega arith), add-one) (ap (λ (l : List ℕ). get_or s i 0 ∷ l) (bytes-part n s (suc i) (omega arith)))

-- The text has its bytes at its place.
abbrev pub Own : List ℕ → Text → Type 0
Own s t = take (length t.raw) (drop t.at s) ≡ t.raw

raw-own : (s : List ℕ) (i : ℕ) (r : Result ℕ SyntaxError) → string_at s i ≡ r → Own s (record { at = i + 1; raw = raw_at s i (end_of r) })
unfolding raw_at
raw-own s i (Ok j) e =
    let ends = string-end s i j e in
    let n = length-bytes (j - i - 2) s (i + 1) in
    rw n (bytes-part (j - i - 2) s (i + 1) (omega (arith, ends.0, ends.1)))
raw-own s i (Err x) e = let z = raw-none s i in unfold raw_at in rw z

-- A text that may be absent.
abbrev pub OwnIn : List ℕ → Option Text → Type 0
OwnIn s none = Unit {0}
OwnIn s (some t) = Own s t

string-own : (l : ℕ) (s : List ℕ) (i : ℕ) → OwnIn s (string (tree_at l s i))
unfolding word_at
string-own l s i = subst (OwnIn s) (sym (string-text l s i)) (go (eqb (byte s i) 0x22))
  where
    go : (q : Bool) → OwnIn s (if q then some (record { at = i + 1; raw = word_at s i }) else none)
    go true = raw-own s i (string_at s i) refl
    go false = tt

-- ---- values of the text's tree

record Grown (s : List ℕ) (v : Json) : Type 0 where
  level : ℕ
  place : ℕ
  is : v ≡ tree_at level s place

abbrev GrownIn : List ℕ → Option Json → Type 0
GrownIn s none = Unit {0}
GrownIn s (some v) = Grown s v

abbrev AllGrown : List ℕ → Fields → Type 0
AllGrown s no_field = Unit {0}
AllGrown s (field at name v fields) = Grown s v × AllGrown s fields

abbrev FieldsGrown : List ℕ → Option Fields → Type 0
FieldsGrown s none = Unit {0}
FieldsGrown s (some fields) = AllGrown s fields

fields-grown : (l : ℕ) (s : List ℕ) (ms : List Member) → AllGrown s (fields_of (λ v. tree_at l s v) s ms)
unfolding fields_of
fields-grown l s [] = tt
fields-grown l s (m ∷ ms) = (record { level = l; place = m.value; is = refl }, fields-grown l s ms)

abbrev ObjectGrown : List ℕ → Json → Type 0
ObjectGrown s v = FieldsGrown s (object v)

by-grown : (fields : Fields) (items : Items) (s : List ℕ) (i : ℕ) → AllGrown s fields → ObjectGrown s (tree_by fields items s i)
unfolding tree_by scalar_tree
by-grown fields items s i h =
    pick (ObjectGrown s) (eqb (byte s i) 0x7B) _ _ h
    (pick (ObjectGrown s) (eqb (byte s i) 0x5B) _ _ tt
    (pick (ObjectGrown s) (eqb (byte s i) 0x22) _ _ tt
    (pick (ObjectGrown s) (eqb (byte s i) 0x66) _ _ tt
    (pick (ObjectGrown s) (eqb (byte s i) 0x6E) _ _ tt (pick (ObjectGrown s) (eqb (byte s i) 0x74) _ _ tt tt)))))

tree-grown : (l : ℕ) (s : List ℕ) (i : ℕ) → ObjectGrown s (tree_at l s i)
unfolding tree_at
tree-grown zero s i = by-grown no_field no_item s i tt
tree-grown (suc l) s i = by-grown _ _ s i (fields-grown l s (members_of s i))

object-grown : (s : List ℕ) (v : Json) → Grown s v → ObjectGrown s v
object-grown s v g = subst (ObjectGrown s) (sym g.is) (tree-grown g.level s g.place)

text-own : (s : List ℕ) (v : Json) → Grown s v → OwnIn s (string v)
text-own s v g = subst (λ (w : Json). OwnIn s (string w)) (sym g.is) (string-own g.level s g.place)

member-grown : (s : List ℕ) (name : List ℕ) (fields : Fields) → AllGrown s fields → GrownIn s (member name fields)
unfolding member look_up
member-grown s name no_field h = tt
member-grown s name (field at given v fields) h = go (same given name) (member-grown s name fields h.1)
  where
    go : (t : Bool) → GrownIn s (as_option (look_up name fields)) → GrownIn s (as_option (if t then Finds.some v else look_up name fields))
    go true later = h.0
    go false later = later

-- ---- the texts of an event and of its overrides

record Owned (s : List ℕ) (d : Details) : Type 0 where
  title : OwnIn s d.title
  description : OwnIn s d.description

read-own : (s : List ℕ) (v : Json) → Grown s v → OwnIn s (read_text v).value
unfolding read_text or_wrong
read-own s v g = go (string v) (text-own s v g)
  where
    go : (o : Option Text) → OwnIn s o → OwnIn s (or_wrong none 20 (λ (t : Text). record { value = some t; fault = 0 }) o).value
    go none h = tt
    go (some t) h = h

optional-own : (s : List ℕ) (o : Option Json) → GrownIn s o → OwnIn s (optional none read_text o).value
unfolding optional
optional-own s none h = tt
optional-own s (some v) h = read-own s v h

patched-own : (s : List ℕ) (own : Option Text) (o : Option Json) → OwnIn s own → GrownIn s o → OwnIn s (patched own none read_text o).value
unfolding patched
patched-own s own none h g = h
patched-own s own (some v) h g = pick (λ (r : Reading (Option Text)). OwnIn s r.value) (is_null v) _ _ tt (read-own s v g)

details-owned : (s : List ℕ) (at : ℕ) (fields : Fields) → AllGrown s fields → Owned s (details_in at fields).value
unfolding details_in placed
details-owned s at fields g =
    record { title = optional-own s _ (member-grown s (ascii "title") fields g); description = optional-own s _ (member-grown s (ascii "description") fields g) }

patch-owned : (s : List ℕ) (own : Details) (id at : ℕ) (fields : Fields) → Owned s own → AllGrown s fields → Owned s (patch_in own id at fields).value.details
unfolding patch_in placed
patch-owned s own id at fields h g =
    record {
      title = patched-own s own.title _ h.title (member-grown s (ascii "title") fields g);
      description = patched-own s own.description _ h.description (member-grown s (ascii "description") fields g);
    }

override-owned : (s : List ℕ) (own : Details) (at : ℕ) (name : List ℕ) (patch : Json) → Owned s own → Grown s patch
    → Owned s (override_of own at name patch).value.details
unfolding override_of inside
override-owned s own at name patch h g = go (object patch) (object-grown s patch g)
  where
    go : (o : Option Fields) → FieldsGrown s o
        → Owned s (inside (record { id = (date_time name).value; excluded = false; details = own }) (place_of patch) (patch_in own (date_time name).value (place_of patch)) o).value.details
    go none f = h
    go (some fields) f = patch-owned s own (date_time name).value (place_of patch) fields h f

abbrev AllOwned : List ℕ → List Override → Type 0
AllOwned s [] = Unit {0}
AllOwned s (o ∷ os) = Owned s o.details × AllOwned s os

overrides-owned : (s : List ℕ) (own : Details) (fields : Fields) → Owned s own → AllGrown s fields → AllOwned s (overrides_in own fields).value
unfolding overrides_in
overrides-owned s own no_field h g = tt
overrides-owned s own (field at name patch fields) h g = (override-owned s own at name patch h g.0, overrides-owned s own fields h g.1)

read_owned : (s : List ℕ) (own : Details) (v : Json) → Owned s own → Grown s v → AllOwned s (read_overrides own v).value
unfolding read_overrides inside limited
read_owned s own v h g = go (object v) (object-grown s v g)
  where
    go : (o : Option Fields) → FieldsGrown s o → AllOwned s (inside [] (place_of v) (λ (fields : Fields). limited 256 (place_of v) (overrides_in own fields)) o).value
    go none f = tt
    go (some fields) f = overrides-owned s own fields h f

listed-owned : (s : List ℕ) (own : Details) (o : Option Json) → Owned s own → GrownIn s o → AllOwned s (present [] (read_overrides own) o).value
unfolding present
listed-owned s own none h g = tt
listed-owned s own (some v) h g = read_owned s own v h g

-- ---- the texts of an occurrence

module _ (s : List ℕ) where
  record EventOwned (e : Event) : Type 0 where
    own : Owned s e.details
    others : AllOwned s e.overrides

  event-owned : EventOwned (event_of s)
  unfolding event_of event_from text_tree event_in
  event-owned = go (object (text_tree s)) (tree-grown levels s (space_at s 0))
    where
      go : (o : Option Fields) → FieldsGrown s o → EventOwned (event_from (place_of (text_tree s)) o)
      go none f = record { own = record { title = tt; description = tt }; others = tt }
      go (some fields) f =
          let at = place_of (text_tree s) in
          record {
            own = details-owned s at fields f;
            others = listed-owned s (details_in at fields).value _ (details-owned s at fields f) (member-grown s (ascii "recurrenceOverrides") fields f);
          }

  patched-owned : (own : Details) (x : ℕ) (os : List Override) → Owned s own → AllOwned s os → Owned s (patched_by own x (override_at os x))
  unfolding override_at patched_by with_start
  patched-owned own x [] h g = record { title = h.title; description = h.description }
  patched-owned own x (o ∷ os) h g = go (eqb o.id x) (patched-owned own x os h g.1)
    where
      go : (t : Bool) → Owned s (patched_by own x (override_at os x)) → Owned s (patched_by own x (if t then some o else override_at os x))
      go true later = g.0
      go false later = later

  occurrence-owned : (x : ℕ) → Owned s (details_at (event_of s) x)
  unfolding details_at
  occurrence-owned x = patched-owned (event_of s).details x (event_of s).overrides event-owned.own event-owned.others

  pub title-own : (x : ℕ) → OwnIn s (details_at (event_of s) x).title
  title-own x = (occurrence-owned x).title

  pub description-own : (x : ℕ) → OwnIn s (details_at (event_of s) x).description
  description-own x = (occurrence-owned x).description
