-- What a reader answers: the value and the fault that the definitions of the event give. They are the same in a tree of any depth, l. A single value has
-- the number of its fault; of a list's faults the answer is the one that decides.
use Rattle.std.specs.Prelude.{ℕ, List, ◌≡◌, length}
use Rattle.std.proofs.lemmas.List.Edits.{sets}
use Rattle.fault.specs.Fault.{first, First}
use Rattle.json_walk.specs.Walk.{elements_of}
use Rattle.json_tree.specs.Tree.{Json, items_of, tree_at}
use Rattle.json_tree.specs.Inner.Kinds.{kind_at}
use Rattle.json_tree.specs.declared.Kind.{Kind}
use Rattle.json_tree.specs.declared.Kind.TheVariants as kind
use Rattle.event.specs.Values.{list_of}
use Rattle.event.specs.Reading.{Reading, Judged, read_all}

pub record Reads {A : Type 0} (tree : ℕ → Reading A) (a : A) (n : ℕ) : Type 0 where
  pub value : (l : ℕ) → a ≡ (tree l).value
  pub fault : (l : ℕ) → n ≡ (tree l).fault

-- What is wrong with a value of a kind that is no integer in range: 02, 4: "wrong JSON type 20", "number out of range or with a fraction or exponent 23".
abbrev pub no_integer : Kind → ℕ
no_integer kind.Number = 23
no_integer kind.Null = 20
no_integer kind.False = 20
no_integer kind.True = 20
no_integer kind.String = 20
no_integer kind.Array = 20
no_integer kind.Object = 20

abbrev pub no_integer_at : List ℕ → ℕ → ℕ
no_integer_at s i = no_integer (kind_at s i)

-- All entries of the array at a place, whose values are l levels deep.
abbrev pub entries_at : {A : Type 0} → (Json → Judged A) → ℕ → List ℕ → ℕ → Judged (List A)
entries_at f l s i = read_all f (list_of (items_of (λ v. tree_at l s v) (elements_of s i)))

-- What a reader of a list answers: all entries are counted, and those are stored that the lent room has places for.
pub record Entries {A : Type 0} (tree : ℕ → Judged (List A)) (before after : List A) (m : ℕ) (n : First) : Type 0 where
  pub list : (l : ℕ) → after ≡ sets before 0 (tree l).value
  pub count : (l : ℕ) → m ≡ length (tree l).value
  pub fault : (l : ℕ) → n ≡ first (tree l).faults
