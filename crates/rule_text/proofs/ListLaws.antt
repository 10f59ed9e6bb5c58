-- A by-list at a place is the tree's.
use Rattle.std.specs.Prelude.{if◌then◌else◌, Some, None}
use Prim.Native.Nat.{ℕ, suc, ◌<◌}
use mathlib.Core.Bool.{Bool, true, false}
use mathlib.Core.List.{List, [], ◌∷◌}
use mathlib.Core.Option.{none, some}
use mathlib.Core.Path.{◌≡◌, refl, sym}
use native.Mathlib.Omega.{arith}
use lib.Dec.{eqb, ltb}
use lib.ListN.{length}
use lib.Seq.{length-sets}
use borrow.Author.Tests.{eqb-true, ne_eqb}
use Rattle.fault.specs.Fault.{first, First, a_fault}
use Rattle.fault.proofs.Laws.{fault-here}
use Rattle.json_text.specs.Bytes.{byte}
use Rattle.json_walk.specs.Walk.{members_of, elements_of}
use Rattle.json_tree.specs.Tree.{Json, scalar_tree, tree_by, tree_at, items_of}
use Rattle.json_tree.proofs.Trees.{choose, always, object-tree, array-tree, place-tree}
use Rattle.json_tree.specs.Inner.Members.{find_in}
use Rattle.property.proofs.RowLaws.{member-place}
use Rattle.property.specs.Inner.From.{value_in}
use Rattle.property.specs.Inner.Rows.{placed}
use Rattle.property.specs.Inner.Place as property
use Rattle.event.specs.Values.{array, object, list_of}
use Rattle.event.specs.Reading.{Judged, fine, faulty, inside, present, read_all, limited}
use Rattle.event.specs.Rules.{entries_of, by_list}
use Rattle.property.specs.Inner.From.{fields_in}
use Rattle.rule_text.specs.Inner.Members.{member_at}
use Rattle.rule_text.specs.Inner.Reads.{Entries}
use Rattle.rule_text.specs.Inner.Lists.{list_place, Within, list_fault}
use Rattle.rule_text.specs.declared.Place.{Place}
use Rattle.rule_text.proofs.JoinLaws.{first-limit}
use Rattle.rule_text.specs.declared.Place.TheVariants.{At, Absent, Wrong}

-- ---- arrays and objects

module _ (l : ℕ) (s : List ℕ) (i : ℕ) where
  pub array-is : eqb (byte s i) 0x5B ≡ true → array (tree_at (suc l) s i) ≡ some (list_of (items_of (λ v. tree_at l s v) (elements_of s i)))
  array-is e =
      let b : byte s i ≡ 0x5B = eqb-true (byte s i) 0x5B e in
      let d : eqb (byte s i) 0x7B ≡ false = rw b in
      rw (array-tree l s i d e)

  pub array-not : eqb (byte s i) 0x5B ≡ false → array (tree_at (suc l) s i) ≡ none
  unfolding tree_at tree_by scalar_tree
  array-not e = rw e (simp (choose array, always))

  pub object-is : eqb (byte s i) 0x7B ≡ true → object (tree_at (suc l) s i) ≡ some (fields_in l s i)
  object-is e = rw (object-tree l s i e)

  pub object-not : eqb (byte s i) 0x7B ≡ false → object (tree_at (suc l) s i) ≡ none
  unfolding tree_at tree_by scalar_tree
  object-not e = rw e (simp (choose object, always))

-- ---- a list by its place

-- The list at a place, l levels below it.
abbrev pub list_at : {A : Type 0} → (Json → Judged A) → ℕ → List ℕ → Place → Judged (List A)
list_at f l s (At i) = entries_of f i (list_of (items_of (λ v. tree_at l s v) (elements_of s i)))
list_at f l s Absent = fine []
list_at f l s (Wrong i) = faulty [] 20 i

module _ {A : Type 0} (f : Json → Judged A) (l : ℕ) (s : List ℕ) where
  array-place : (i : ℕ) (c : Bool) → eqb (byte s i) 0x5B ≡ c → inside [] i (entries_of f i) (array (tree_at (suc l) s i)) ≡ list_at f l s (if c then At i else Wrong i)
  unfolding inside
  array-place i true e = rw (array-is l s i e)
  array-place i false e = rw (array-not l s i e)

  found-place : (found : property.Place) → by_list f (value_in (suc l) s found) ≡ list_at f l s (list_place s found)
  unfolding by_list present list_place
  found-place (Some i) = rw (place-tree (suc l) s i) (array-place i _ refl)
  found-place None = refl

  pub by_place : (i : ℕ) (name : List ℕ) → by_list f (member_at (suc l) s i name) ≡ list_at f l s (list_place s (placed (find_in s name (members_of s i))))
  by_place i name = rw (member-place (suc l) s name (members_of s i)) (found-place (placed (find_in s name (members_of s i))))

-- ---- an array of entries, by all its entries

module _ {A : Type 0} (f : Json → Judged A) (at : ℕ) where
  pub entries-value : (vs : List Json) → (entries_of f at vs).value ≡ (read_all f vs).value
  unfolding entries_of read_all limited
  entries-value [] = refl
  entries-value (v ∷ vs) = refl

  pub entries-fault : (vs : List Json) → first (entries_of f at vs).faults ≡ list_fault (length (read_all f vs).value) at (first (read_all f vs).faults)
  unfolding entries_of read_all limited list_fault
  entries-fault [] = fault-here 25 at refl
  entries-fault (v ∷ vs) = rw (ne_eqb (suc (length (read_all f vs).value)) 0 (λ e. omega arith)) (first-limit (ltb 64 (suc (length (read_all f vs).value))) at _)

pub entries-same : {A : Type 0} {tree other : ℕ → Judged (List A)} {before after : List A} {m : ℕ} {n : First} → Entries other before after m n → ((l : ℕ) → tree l ≡ other l) → Entries tree before after m n
entries-same {A} h e =
    record {
      list = λ l. rw (e l) (h.list l);
      count = λ l. rw (e l) (h.count l);
      fault = λ l. rw (e l) (h.fault l);
    }

pub entries-limited : {A : Type 0} (f : Json → Judged A) (at : ℕ) (vs : ℕ → List Json) {before after : List A} {m : ℕ} {n k : First} → Entries (λ l. read_all f (vs l)) before after m n
    → k ≡ list_fault m at n → Entries (λ l. entries_of f at (vs l)) before after m k
entries-limited f at vs h e =
    record {
      list = λ l. rw (entries-value f at (vs l)) (h.list l);
      count = λ l. rw (entries-value f at (vs l)) (h.count l);
      fault = λ l. rw (entries-fault f at (vs l), e, h.count l, h.fault l);
    }

-- A list that is absent stores nothing, and so does a value that is no list.
pub entries-absent : {A : Type 0} {before : List A} → Entries (λ l. fine []) before before 0 None
unfolding first
entries-absent = record { list = λ l. refl; count = λ l. refl; fault = λ l. refl }

pub entries-wrong : {A : Type 0} {before : List A} {i : ℕ} → Entries (λ l. faulty [] 20 i) before before 0 (Some (a_fault 20 i))
entries-wrong {A} {before} {i} = record { list = λ l. refl; count = λ l. refl; fault = λ l. sym (fault-here 20 i refl) }

pub entries-length : {A : Type 0} {tree : ℕ → Judged (List A)} {before after : List A} {m : ℕ} {n : First} → Entries tree before after m n → length after ≡ length before
entries-length {A} {tree} {before} h = rw (h.list 0) (length-sets before 0 (tree 0).value)

-- An array that was found lies in the text.
pub at-within : {p : Place} {n i : ℕ} → p ≡ At i → Within n p → i < n
at-within e w = rw e at w
