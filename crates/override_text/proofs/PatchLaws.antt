-- A patched property by its member.
use Rattle.std.specs.Prelude.{if◌then◌else◌, Some, None}
use Prim.Native.Nat.{ℕ, zero, suc}
use mathlib.Core.Bool.{Bool, true, false}
use mathlib.Core.List.{List}
use mathlib.Core.Option.{Option, none, some}
use mathlib.Core.Path.{◌≡◌, refl, sym, ap, ◌∙◌}
use lib.Dec.{eqb}
use Rattle.json_text.specs.Bytes.{byte}
use Rattle.json_tree.specs.Tree.{Json, Fields, place_of, tree_at, tree_by, scalar_tree}
use Rattle.json_tree.proofs.Trees.{choose, always, place-tree, object-tree}
use Rattle.event.specs.Types.{Details}
use Rattle.event.specs.Values.{is_null, member, object}
use Rattle.event.specs.Reading.{Reading, right, Judged, faulty, inside}
use Rattle.event.specs.Properties.{read_start}
use Rattle.event.specs.Overrides.{patched, patched_start, patch_in}
use Rattle.property.specs.Inner.From.{fields_in}
use Rattle.json_tree.specs.Inner.Members.{find_in}
use Rattle.json_walk.specs.Walk.{members_of}
use Rattle.property.proofs.RowLaws.{here, missing}
use Rattle.property.specs.Inner.Rows.{placed}
use Rattle.property.specs.Inner.Place.{Place}
use Rattle.override_text.specs.Inner.Patched.{Chosen, patch_at}

module _ (id : ℕ) (o : Option Json) where
  pub start-own : o ≡ none → right id ≡ patched_start id o
  unfolding patched_start
  start-own e = sym (ap (patched_start id) e)

  pub start-read : (v : Json) → o ≡ some v → read_start v ≡ patched_start id o
  unfolding patched_start
  start-read v e = sym (ap (patched_start id) e)

module _ {A : Type 0} (own default : A) (f : Json → Reading A) (o : Option Json) where
  pub patched-own : o ≡ none → right own ≡ patched own default f o
  unfolding patched
  patched-own e = sym (ap (patched own default f) e)

  module _ (v : Json) (e : o ≡ some v) (b : Bool) (p : b ≡ is_null v) where
    pub patched-null : b ≡ true → right default ≡ patched own default f o
    unfolding patched
    patched-null t = sym (ap (patched own default f) e ∙ ap (λ (c : Bool). if c then right default else f v) (sym p ∙ t))

    pub patched-read : b ≡ false → f v ≡ patched own default f o
    unfolding patched
    patched-read t = sym (ap (patched own default f) e ∙ ap (λ (c : Bool). if c then right default else f v) (sym p ∙ t))

-- A property as the code chooses it is the patched one: its readings are those of what it was chosen from.
module _ {T B : Type 0} (s name : List ℕ) (at l : ℕ) (own default r : T) (Reads : ℕ → T → Type 0)
    (mean : T → Reading B) (f : Json → Reading B) (a b : B) (p : mean own ≡ right a) (q : mean default ≡ right b)
    (reads : (i : ℕ) (x : T) → Reads i x → mean x ≡ f (tree_at l s i)) where
  pub chosen : Chosen l s (placed (find_in s name (members_of s at))) own default Reads r
      → mean r ≡ patched a b f (member name (fields_in l s at))
  chosen = go (placed (find_in s name (members_of s at))) refl
    where
      go : (x : Place) → x ≡ placed (find_in s name (members_of s at)) → Chosen l s x own default Reads r
          → mean r ≡ patched a b f (member name (fields_in l s at))
      go None e w = ap mean w ∙ p ∙ patched-own a b f _ (missing s name at _ e refl l)
      go (Some i) e w = by-null (is_null (tree_at l s i)) refl
        where
          by-null : (c : Bool) → c ≡ is_null (tree_at l s i) → mean r ≡ patched a b f (member name (fields_in l s at))
          by-null true n = ap mean (w.0 (sym n)) ∙ q ∙ patched-null a b f _ (tree_at l s i) (here s name at _ e i refl l) true n refl
          by-null false n = reads i r (w.1 (sym n)) ∙ patched-read a b f _ (tree_at l s i) (here s name at _ e i refl l) false n refl

-- ---- is it an object?

object-no : (s : List ℕ) (at : ℕ) → eqb (byte s at) 0x7B ≡ false → (l : ℕ) → object (tree_at l s at) ≡ none
unfolding tree_at tree_by scalar_tree
object-no s at e zero = rw e (simp (choose object, always))
object-no s at e (suc l) = rw e (simp (choose object, always))

-- What an object gives, and what stands in for it where there is none.
abbrev pub as_object : {B : Type 0} → B → (ℕ → Fields → Judged B) → Json → Judged B
as_object b f v = inside b (place_of v) (f (place_of v)) (object v)

module _ (s : List ℕ) (at : ℕ) where
  pub at-object : {B : Type 0} (b : B) (f : ℕ → Fields → Judged B) → eqb (byte s at) 0x7B ≡ true → (l : ℕ) → f at (fields_in l s at) ≡ as_object b f (tree_at (suc l) s at)
  unfolding inside
  at-object b f e l = sym (ap (as_object b f) (object-tree l s at e))

  pub at_other : {B : Type 0} (b : B) (f : ℕ → Fields → Judged B) → eqb (byte s at) 0x7B ≡ false → (l : ℕ) → faulty b 20 at ≡ as_object b f (tree_at (suc l) s at)
  unfolding inside
  at_other b f e l =
      let v = tree_at (suc l) s at in
      ap (faulty b 20) (sym (place-tree (suc l) s at)) ∙ sym (ap (inside b (place_of v) (f (place_of v))) (object-no s at e (suc l)))

  pub patch-yes : (own : Details) (id : ℕ) → eqb (byte s at) 0x7B ≡ true → (l : ℕ) → patch_in own id at (fields_in l s at) ≡ patch_at l own id s at
  patch-yes own id e l = at-object _ (patch_in own id) e l

  pub patch-no : (own : Details) (id : ℕ) → eqb (byte s at) 0x7B ≡ false → (l : ℕ)
      → faulty (record { id = id; excluded = false; details = own }) 20 at ≡ patch_at l own id s at
  patch-no own id e l = at_other _ (patch_in own id) e l
