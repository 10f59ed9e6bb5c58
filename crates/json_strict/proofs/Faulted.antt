-- The faults of names that answer 4 judges are those of the text's tree.
use Rattle.std.specs.Prelude.{if◌then◌else◌}
use Prim.Native.Nat.{ℕ, zero, suc}
use mathlib.Core.Bool.{Bool, false}
use mathlib.Core.List.{List, [], ◌∷◌}
use mathlib.Core.Path.{◌≡◌, refl}
use lib.Dec.{eqb}
use Rattle.json_text.specs.Bytes.{byte, space_at}
use Rattle.json_value.specs.Values.{levels}
use Rattle.json_walk.specs.Walk.{members_of, elements_of}
use Rattle.json_walk.specs.declared.Member.{Member}
use Rattle.json_walk.specs.declared.Element.{Element}
use Rattle.json_names.specs.Inner.Names.{name_of, named, repeats, any_slashed, bad_names, any_member, any_element, object_fault, fault_at}
use Rattle.json_tree.specs.Tree.{Json, no_field, no_item, fields_of, items_of, scalar_tree, tree_by, tree_at, text_tree}
use Rattle.json_tree.specs.Faults.{field_named, fields_repeat, fields_slashed, fields_bad, faulty, items_faulty, fields_faulty}
use Rattle.json_tree.proofs.Trees.{choose, always}

named-tree : (tree : ℕ → Json) (s x : List ℕ) (ms : List Member) → field_named x (fields_of tree s ms) ≡ named s x ms
unfolding field_named fields_of named
named-tree tree s x [] = refl
named-tree tree s x (m ∷ ms) = rw (named-tree tree s x ms)

repeats-tree : (tree : ℕ → Json) (s : List ℕ) (ms : List Member) → fields_repeat (fields_of tree s ms) ≡ repeats s ms
unfolding fields_repeat fields_of repeats
repeats-tree tree s [] = refl
repeats-tree tree s (m ∷ ms) = rw (named-tree tree s (name_of s m) ms, repeats-tree tree s ms)

slashed-tree : (tree : ℕ → Json) (s : List ℕ) (ms : List Member) → fields_slashed (fields_of tree s ms) ≡ any_slashed s ms
unfolding fields_slashed fields_of any_slashed
slashed-tree tree s [] = refl
slashed-tree tree s (m ∷ ms) = rw (slashed-tree tree s ms)

bad-tree : (tree : ℕ → Json) (s : List ℕ) (ms : List Member) → fields_bad (fields_of tree s ms) ≡ bad_names s ms
unfolding fields_bad bad_names
bad-tree tree s ms = rw (slashed-tree tree s ms, repeats-tree tree s ms)

fields-tree : (tree : ℕ → Json) (p : ℕ → Bool) → ((v : ℕ) → faulty (tree v) ≡ p v) → (s : List ℕ) (ms : List Member) → fields_faulty (fields_of tree s ms) ≡ any_member p ms
unfolding fields_faulty fields_of any_member
fields-tree tree p h s [] = refl
fields-tree tree p h s (m ∷ ms) = rw (h m.value, fields-tree tree p h s ms)

items-tree : (tree : ℕ → Json) (p : ℕ → Bool) → ((v : ℕ) → faulty (tree v) ≡ p v) → (es : List Element) → items_faulty (items_of tree es) ≡ any_element p es
unfolding items_faulty items_of any_element
items-tree tree p h [] = refl
items-tree tree p h (e ∷ es) = rw (h e.value, items-tree tree p h es)

scalar-tree : (s : List ℕ) (i : ℕ) → faulty (scalar_tree s i) ≡ false
unfolding scalar_tree faulty
scalar-tree s i = simp (choose faulty, always)

-- Level by level.
zero-tree : (s : List ℕ) (i : ℕ) → faulty (tree_by no_field no_item s i) ≡ false
unfolding tree_by faulty fields_bad fields_slashed fields_repeat
zero-tree s i = simp (choose faulty, scalar-tree, always)

level-tree : (tree : ℕ → Json) (p : ℕ → Bool) → ((v : ℕ) → faulty (tree v) ≡ p v) → (s : List ℕ) (i : ℕ)
    → faulty (tree_by (fields_of tree s (members_of s i)) (items_of tree (elements_of s i)) s i) ≡
    (if eqb (byte s i) 0x7B then object_fault p s i else
    if eqb (byte s i) 0x5B then any_element p (elements_of s i) else
    false)
unfolding tree_by faulty object_fault
level-tree tree p h s i =
    rw (
      choose faulty (eqb (byte s i) 0x7B) _ _,
      choose faulty (eqb (byte s i) 0x5B) _ _,
      bad-tree tree s (members_of s i),
      fields-tree tree p h s (members_of s i),
      items-tree tree p h (elements_of s i),
      scalar-tree s i,
    )

pub fault-tree : (l : ℕ) (s : List ℕ) (i : ℕ) → faulty (tree_at l s i) ≡ fault_at l s i
unfolding tree_at fault_at
fault-tree zero s i = zero-tree s i
fault-tree (suc l) s i = level-tree (λ v. tree_at l s v) (λ v. fault_at l s v) (λ v. fault-tree l s v) s i

-- Answer 4's question, asked of the tree of the whole text.
pub text-tree : (s : List ℕ) → faulty (text_tree s) ≡ fault_at levels s (space_at s 0)
unfolding text_tree
text-tree s = fault-tree levels s (space_at s 0)
