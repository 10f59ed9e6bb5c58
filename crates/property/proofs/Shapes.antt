-- The tree's value at a place, by the kind that stands there. Where a kind is known, `shape-tree` and that fact compute the answer to every
-- question that a property asks of a value: `is_null`, `boolean`, `string`, `integer`, `array`, `object`.
use Rattle.std.specs.Prelude.{if◌then◌else◌}
use Prim.Native.Nat.{ℕ, zero, suc, ◌+◌}
use mathlib.Core.Bool.{Bool, true, false}
use mathlib.Core.List.{List}
use mathlib.Core.Option.{none, some}
use mathlib.Core.Path.{◌≡◌, refl}
use Rattle.json_walk.specs.Walk.{members_of, elements_of}
use Rattle.json_tree.proofs.Trees.{choose}
use Rattle.json_tree.specs.Integers.{integer_at}
use Rattle.json_tree.specs.Tree.{Json, Fields, Items, no_field, no_item, null_at, false_at, true_at, number_of, string_of, array_of, object_of, scalar_tree, fields_of, items_of, tree_by, tree_at}
use Rattle.json_tree.specs.Inner.Kinds.{kind_at}
use Rattle.json_tree.specs.declared.Kind.{Kind}
use Rattle.json_tree.specs.declared.Kind.TheVariants as kind
use Rattle.event.specs.Values.{is_null, string}
use Rattle.property.specs.Inner.Words.{word_at}

-- The value of a kind at a place, where an object's fields and an array's items are given.
abbrev pub shape : Fields → Items → List ℕ → ℕ → Kind → Json
shape fields items s i kind.Null = null_at i
shape fields items s i kind.False = false_at i
shape fields items s i kind.True = true_at i
shape fields items s i kind.Number = number_of i (integer_at s i)
shape fields items s i kind.String = string_of i (word_at s i)
shape fields items s i kind.Array = array_of i items
shape fields items s i kind.Object = object_of i fields

-- The fields and the items at a place, so many levels deep.
unfoldable pub fields_at : ℕ → List ℕ → ℕ → Fields
fields_at zero s i = no_field
fields_at (suc l) s i = fields_of (λ v. tree_at l s v) s (members_of s i)

unfoldable pub items_at : ℕ → List ℕ → ℕ → Items
items_at zero s i = no_item
items_at (suc l) s i = items_of (λ v. tree_at l s v) (elements_of s i)

shape-by : (fields : Fields) (items : Items) (s : List ℕ) (i : ℕ) → tree_by fields items s i ≡ shape fields items s i (kind_at s i)
unfolding tree_by scalar_tree kind_at word_at
shape-by fields items s i = simp (choose (shape fields items s i))

pub shape-tree : (l : ℕ) (s : List ℕ) (i : ℕ) → tree_at l s i ≡ shape (fields_at l s i) (items_at l s i) s i (kind_at s i)
unfolding tree_at fields_at items_at
shape-tree zero s i = shape-by no_field no_item s i
shape-tree (suc l) s i = shape-by _ _ s i

-- Is it the kind of strings, of null?
abbrev pub is_string_kind : Kind → Bool
is_string_kind kind.Null = false
is_string_kind kind.False = false
is_string_kind kind.True = false
is_string_kind kind.Number = false
is_string_kind kind.String = true
is_string_kind kind.Array = false
is_string_kind kind.Object = false

abbrev pub is_null_kind : Kind → Bool
is_null_kind kind.Null = true
is_null_kind kind.False = false
is_null_kind kind.True = false
is_null_kind kind.Number = false
is_null_kind kind.String = false
is_null_kind kind.Array = false
is_null_kind kind.Object = false

pub string-kind : (l : ℕ) (s : List ℕ) (i : ℕ)
    → string (tree_at l s i) ≡ (if is_string_kind (kind_at s i) then some (record { at = i + 1; raw = word_at s i }) else none)
string-kind l s i = rw (shape-tree l s i) (go (kind_at s i))
  where
    go : (k : Kind) → string (shape (fields_at l s i) (items_at l s i) s i k) ≡ (if is_string_kind k then some (record { at = i + 1; raw = word_at s i }) else none)
    go kind.Null = refl
    go kind.False = refl
    go kind.True = refl
    go kind.Number = refl
    go kind.String = refl
    go kind.Array = refl
    go kind.Object = refl

pub null-kind : (l : ℕ) (s : List ℕ) (i : ℕ) → is_null (tree_at l s i) ≡ is_null_kind (kind_at s i)
null-kind l s i = rw (shape-tree l s i) (go (kind_at s i))
  where
    go : (k : Kind) → is_null (shape (fields_at l s i) (items_at l s i) s i k) ≡ is_null_kind k
    go kind.Null = refl
    go kind.False = refl
    go kind.True = refl
    go kind.Number = refl
    go kind.String = refl
    go kind.Array = refl
    go kind.Object = refl
