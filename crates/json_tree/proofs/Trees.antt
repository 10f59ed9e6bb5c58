-- What the readers answer, about the tree of the text: kind and place, members and elements, strings, and look-up.
use Rattle.std.specs.Prelude.{if◌then◌else◌, Some}
use Prim.Native.Nat.{ℕ, zero, suc}
use mathlib.Core.Bool.{Bool, true, false}
use mathlib.Core.List.{List, [], ◌∷◌}
use mathlib.Core.Path.{◌≡◌, refl}
use lib.Dec.{eqb}
use Rattle.json_text.specs.Bytes.{byte}
use Rattle.json_text.specs.Strings.{string_at}
use Rattle.json_walk.specs.Walk.{members_of, elements_of}
use Rattle.json_walk.specs.Strings.{raw_at, same}
use Rattle.json_walk.specs.declared.Member.{Member}
use Rattle.json_tree.specs.Tree.{Json, Fields, Items, object_of, array_of, string_of, number_of, place_of, end_of, scalar_tree, fields_of, items_of, tree_by, tree_at}
use Rattle.json_tree.specs.Inner.Kinds.{kind_of, kind_at}
use Rattle.json_tree.specs.Integers.{integer_at}
use Rattle.json_tree.specs.Finds.{look_up}
use Rattle.json_tree.specs.Inner.Members.{find_in, value_found}

-- A function goes into a choice.
pub choose : {A B : Type 0} (f : A → B) (c : Bool) (a b : A) → f (if c then a else b) ≡ (if c then f a else f b)
choose f true a b = refl
choose f false a b = refl

pub always : {A : Type 0} (c : Bool) (a : A) → (if c then a else a) ≡ a
always true a = refl
always false a = refl

kind-by : (fields : Fields) (items : Items) (s : List ℕ) (i : ℕ) → kind_of (tree_by fields items s i) ≡ kind_at s i
unfolding tree_by scalar_tree kind_at
kind-by fields items s i = simp (choose kind_of)

place-by : (fields : Fields) (items : Items) (s : List ℕ) (i : ℕ) → place_of (tree_by fields items s i) ≡ i
unfolding tree_by scalar_tree
place-by fields items s i = simp (choose place_of, always)

-- The kind that is read is the tree's, and the tree's place is where it was read.
pub kind-tree : (l : ℕ) (s : List ℕ) (i : ℕ) → kind_of (tree_at l s i) ≡ kind_at s i
unfolding tree_at
kind-tree zero s i = kind-by _ _ s i
kind-tree (suc l) s i = kind-by _ _ s i

pub place-tree : (l : ℕ) (s : List ℕ) (i : ℕ) → place_of (tree_at l s i) ≡ i
unfolding tree_at
place-tree zero s i = place-by _ _ s i
place-tree (suc l) s i = place-by _ _ s i

-- An object's fields are the members of the walk, an array's items its elements, each value one level deeper.
pub object-tree : (l : ℕ) (s : List ℕ) (i : ℕ) → eqb (byte s i) 0x7B ≡ true → tree_at (suc l) s i ≡ object_of i (fields_of (λ v. tree_at l s v) s (members_of s i))
unfolding tree_at tree_by
object-tree l s i e = rw e

pub array-tree : (l : ℕ) (s : List ℕ) (i : ℕ) → eqb (byte s i) 0x7B ≡ false → eqb (byte s i) 0x5B ≡ true → tree_at (suc l) s i ≡ array_of i (items_of (λ v. tree_at l s v) (elements_of s i))
unfolding tree_at tree_by
array-tree l s i d e = rw (d, e)

-- A member found by its name has the value that the tree has under that name.
pub find-tree : (tree : ℕ → Json) (s x : List ℕ) (ms : List Member) → look_up x (fields_of tree s ms) ≡ value_found tree (find_in s x ms)
unfolding fields_of look_up find_in
find-tree tree s x [] = refl
find-tree tree s x (m ∷ ms) = rw (find-tree tree s x ms) (both (same (raw_at s m.name m.stop) x))
  where
    both : (c : Bool) → (if c then Rattle.json_tree.specs.Finds.some (tree m.value) else value_found tree (find_in s x ms)) ≡ value_found tree (if c then Some m else find_in s x ms)
    both true = refl
    both false = refl

-- A string's raw bytes are those between its quotes, a number's integer is the one that is read at its place.
pub string-tree : (l : ℕ) (s : List ℕ) (i : ℕ) → eqb (byte s i) 0x7B ≡ false → eqb (byte s i) 0x5B ≡ false → eqb (byte s i) 0x22 ≡ true
    → tree_at l s i ≡ string_of i (raw_at s i (end_of (string_at s i)))
unfolding tree_at tree_by scalar_tree
string-tree zero s i c d e = rw (c, d, e)
string-tree (suc l) s i c d e = rw (c, d, e)

pub integer-tree : (l : ℕ) (s : List ℕ) (i : ℕ) → eqb (byte s i) 0x7B ≡ false → eqb (byte s i) 0x5B ≡ false → eqb (byte s i) 0x22 ≡ false
    → eqb (byte s i) 0x66 ≡ false → eqb (byte s i) 0x6E ≡ false → eqb (byte s i) 0x74 ≡ false → tree_at l s i ≡ number_of i (integer_at s i)
unfolding tree_at tree_by scalar_tree
integer-tree zero s i a b c d e f = rw (a, b, c, d, e, f)
integer-tree (suc l) s i a b c d e f = rw (a, b, c, d, e, f)
