-- A JSON text as a tree of values. Each value has its kind and its place; a string and a name have the raw bytes
-- between their quotes, a number its integer where it is one that is read.
use Rattle.std.specs.Prelude.{if◌then◌else◌, ℕ, zero, suc, List, [], ◌∷◌, eqb, Option, Result, Ok, Err}
use Rattle.json_text.specs.Bytes.{byte, space_at}
use Rattle.json_text.specs.Strings.{string_at}
use Rattle.json_text.specs.declared.SyntaxError.{SyntaxError}
use Rattle.json_value.specs.Values.{levels}
use Rattle.json_walk.specs.Walk.{members_of, elements_of}
use Rattle.json_walk.specs.Strings.{raw_at}
use Rattle.json_walk.specs.declared.Member.{Member}
use Rattle.json_walk.specs.declared.Element.{Element}
use Rattle.json_tree.specs.Integers.{integer_at}
use Rattle.json_tree.specs.declared.Integer.{Integer}

-- A value with its place; an object's field is a name with its place and its raw bytes, and a value.
mutual
  pub data Json : Type 0 where
    null_at : ℕ → Json
    false_at : ℕ → Json
    true_at : ℕ → Json
    number_of : ℕ → Option Integer → Json
    string_of : ℕ → List ℕ → Json
    array_of : ℕ → Items → Json
    object_of : ℕ → Fields → Json

  pub data Items : Type 0 where
    no_item : Items
    item : Json → Items → Items

  pub data Fields : Type 0 where
    no_field : Fields
    field : ℕ → List ℕ → Json → Fields → Fields

-- The place at which a value begins: of a string that of its opening quote.
abbrev pub place_of : Json → ℕ
place_of (null_at i) = i
place_of (false_at i) = i
place_of (true_at i) = i
place_of (number_of i n) = i
place_of (string_of i raw) = i
place_of (array_of i items) = i
place_of (object_of i fields) = i

-- The place after what was read.
abbrev pub end_of : Result ℕ SyntaxError → ℕ
end_of (Ok j) = j
end_of (Err e) = 0

-- A value that holds no other, by its first byte.
unfoldable pub scalar_tree : List ℕ → ℕ → Json
scalar_tree s i =
    if eqb (byte s i) 0x22 then string_of i (raw_at s i (end_of (string_at s i))) else
    if eqb (byte s i) 0x66 then false_at i else
    if eqb (byte s i) 0x6E then null_at i else
    if eqb (byte s i) 0x74 then true_at i else
    number_of i (integer_at s i)

-- The fields and items of members and elements, whose values are trees by their places.
unfoldable pub fields_of : (ℕ → Json) → List ℕ → List Member → Fields
fields_of tree s [] = no_field
fields_of tree s (m ∷ ms) = field m.name (raw_at s m.name m.stop) (tree m.value) (fields_of tree s ms)

unfoldable pub items_of : (ℕ → Json) → List Element → Items
items_of tree [] = no_item
items_of tree (e ∷ es) = item (tree e.value) (items_of tree es)

-- The value at i, where an object's fields and an array's items are given.
unfoldable pub tree_by : Fields → Items → List ℕ → ℕ → Json
tree_by fields items s i =
    if eqb (byte s i) 0x7B then object_of i fields else
    if eqb (byte s i) 0x5B then array_of i items else
    scalar_tree s i

-- The value at a place of a JSON text, so many levels deep.
unfoldable pub tree_at : ℕ → List ℕ → ℕ → Json
tree_at zero s i = tree_by no_field no_item s i
tree_at (suc l) s i = tree_by (fields_of (λ v. tree_at l s v) s (members_of s i)) (items_of (λ v. tree_at l s v) (elements_of s i)) s i

-- The tree of a whole JSON text: no array or object of it lies deeper than 16 levels.
unfoldable pub text_tree : List ℕ → Json
text_tree s = tree_at levels s (space_at s 0)
