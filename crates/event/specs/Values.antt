-- A value of the tree as one of the kinds that a property asks for.
use Rattle.std.specs.Prelude.{if◌then◌else◌, ℕ, zero, suc, ◌+◌, Bool, true, false, List, [], ◌∷◌, ℤ, pos, negsuc}
use Rattle.std.proofs.Math.Option.{Option, none, some}
use Rattle.json_walk.specs.Strings.{same, slashed}
use Rattle.event.specs.Types.{Text}
use Rattle.event.specs.Reading.{Reading, wrong, or_wrong}
use Rattle.std.specs.Prelude as std
use Rattle.json_tree.specs.declared.Integer.{Integer}
use Rattle.json_tree.specs.Finds
use Rattle.json_tree.specs.Finds.{Value?, look_up}
use Rattle.json_tree.specs.Tree.{Json, Items, Fields, null_at, false_at, true_at, number_of, string_of, array_of, object_of, no_item, item}

abbrev pub is_null : Json → Bool
is_null (null_at i) = true
is_null (false_at i) = false
is_null (true_at i) = false
is_null (number_of i n) = false
is_null (string_of i raw) = false
is_null (array_of i items) = false
is_null (object_of i fields) = false

abbrev pub boolean : Json → Option Bool
boolean (null_at i) = none
boolean (false_at i) = some false
boolean (true_at i) = some true
boolean (number_of i n) = none
boolean (string_of i raw) = none
boolean (array_of i items) = none
boolean (object_of i fields) = none

abbrev pub string : Json → Option Text
string (null_at i) = none
string (false_at i) = none
string (true_at i) = none
string (number_of i n) = none
string (string_of i raw) = some (record { at = i + 1; raw = raw })
string (array_of i items) = none
string (object_of i fields) = none

-- "A read string other than `title` and `description` that has a backslash answers 6"; 02, 4: "wrong JSON type 20", "anything else 26, which a wrong
-- backslash always is".
unfoldable pub of_word : {B : Type 0} → B → (List ℕ → Reading B) → Json → Reading B
of_word b f v = or_wrong b 20 (λ (t : Text). if slashed t.raw then wrong b 26 else f t.raw) (string v)

unfoldable pub list_of : Items → List Json
list_of no_item = []
list_of (item v items) = v ∷ list_of items

abbrev pub array : Json → Option (List Json)
array (null_at i) = none
array (false_at i) = none
array (true_at i) = none
array (number_of i n) = none
array (string_of i raw) = none
array (array_of i items) = some (list_of items)
array (object_of i fields) = none

abbrev pub object : Json → Option Fields
object (null_at i) = none
object (false_at i) = none
object (true_at i) = none
object (number_of i n) = none
object (string_of i raw) = none
object (array_of i items) = none
object (object_of i fields) = some fields

-- "Integers: optional minus and digits by JSON's grammar, no fraction or exponent, from -(2^53-1) to 2^53-1."
abbrev pub sized : Bool → ℕ → ℤ
sized false n = pos n
sized true zero = pos 0
sized true (suc n) = negsuc n

abbrev pub as_integer : std.Option Integer → Option ℤ
as_integer std.None = none
as_integer (std.Some n) = some (sized n.negative n.size)

abbrev pub number : Json → Option (std.Option Integer)
number (null_at i) = none
number (false_at i) = none
number (true_at i) = none
number (number_of i n) = some n
number (string_of i raw) = none
number (array_of i items) = none
number (object_of i fields) = none

-- 02, 4: "wrong JSON type 20", "number out of range or with a fraction or exponent 23".
unfoldable pub of_integer : {B : Type 0} → B → (ℤ → Reading B) → Json → Reading B
of_integer b f v = or_wrong b 20 (λ (n : std.Option Integer). or_wrong b 23 f (as_integer n)) (number v)

-- The member of that name.
abbrev pub as_option : Value? → Option Json
as_option Finds.none = none
as_option (Finds.some v) = some v

unfoldable pub member : List ℕ → Fields → Option Json
member name fields = as_option (look_up name fields)

-- Is a member the string of these bytes? "The top `@type` is compared byte by byte, so an escape in it answers 5."
unfoldable pub is_text : List ℕ → Option Text → Bool
is_text name none = false
is_text name (some t) = same t.raw name

unfoldable pub is_type : List ℕ → Option Json → Bool
is_type name none = false
is_type name (some v) = is_text name (string v)
