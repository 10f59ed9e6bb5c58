-- The fields of a text's object are those at its place; a value that is no object has as many members as the end of the text.
use Prim.Native.Nat.{ℕ, zero, suc}
use mathlib.Core.Bool.{Bool, true, false}
use mathlib.Core.List.{List}
use mathlib.Core.Option.{none, some}
use mathlib.Core.Path.{◌≡◌, sym, ◌∙◌}
use native.Mathlib.Omega.{arith}
use lib.Dec.{eqb}
use lib.ListN.{length}
use Rattle.json_text.specs.Bytes.{byte, space_at}
use Rattle.json_tree.proofs.Trees.{choose, always, place-tree, object-tree}
use Rattle.json_tree.specs.Tree.{Fields, Items, fields_of, scalar_tree, tree_by, tree_at, text_tree, place_of}
use Rattle.property.proofs.Fields.{no-members}
use Rattle.event.specs.Values.{object}
use Rattle.property.specs.Inner.From.{fields_in}
use Rattle.event_text.specs.Inner.Front.{front_in, front_of, inner}

pub object-some : (l : ℕ) (s : List ℕ) (i : ℕ) → eqb (byte s i) 0x7B ≡ true → object (tree_at (suc l) s i) ≡ some (fields_in l s i)
object-some l s i e = rw (object-tree l s i e)

other-by : (fields : Fields) (items : Items) (s : List ℕ) (i : ℕ) → eqb (byte s i) 0x7B ≡ false → object (tree_by fields items s i) ≡ none
unfolding tree_by scalar_tree
other-by fields items s i e = rw e (simp (choose object, always))

pub object-none : (l : ℕ) (s : List ℕ) (i : ℕ) → eqb (byte s i) 0x7B ≡ false → object (tree_at l s i) ≡ none
unfolding tree_at
object-none zero s i e = other-by _ _ s i e
object-none (suc l) s i e = other-by _ _ s i e

-- What is read at the place i of a text's value, whose first byte is b.
module _ (s : List ℕ) (i b : ℕ) (at : i ≡ space_at s 0) (is : b ≡ byte s i) where
  first : (t : Bool) → eqb b 0x7B ≡ t → eqb (byte s (space_at s 0)) 0x7B ≡ t
  first t e = rw (← at, ← is) e

  pub tree-object : eqb b 0x7B ≡ true → object (text_tree s) ≡ some (fields_in inner s i)
  unfolding text_tree
  tree-object e = rw (object-some inner s (space_at s 0) (first true e), at)

  pub tree-none : eqb b 0x7B ≡ false → object (text_tree s) ≡ none
  unfolding text_tree
  tree-none e = object-none (suc inner) s (space_at s 0) (first false e)

  tree-place : place_of (text_tree s) ≡ i
  unfolding text_tree
  tree-place = place-tree _ s (space_at s 0) ∙ sym at

  pub front-object : eqb b 0x7B ≡ true → front_of s ≡ front_in i (fields_in inner s i)
  unfolding front_of
  front-object e = rw (tree-object e, tree-place)

  pub front-none : eqb b 0x7B ≡ false → front_of s ≡ front_in (length s) (fields_in inner s (length s))
  unfolding front_of fields_of
  front-none e = rw (tree-none e, no-members s (length s) (omega arith))
