-- A walk over the entries of an array that reads each, for any reader: the entries counted, the faults joined, the values stored.
use Rattle.std.specs.Prelude.{Option, Some, None}
use Prim.Native.Nat.{ℕ, suc, ◌+◌, ◌-◌, ◌≤◌, ◌<◌}
use mathlib.Core.List.{List, [], ◌∷◌, ◌++◌, map, map-id}
use mathlib.Core.Path.{◌≡◌, refl, ap, sym, ◌∙◌}
use native.Mathlib.Numerals.{add-one}
use native.Mathlib.Omega.{arith}
use Rattle.std.proofs.Math.Nat.{sub-zero}
use lib.ListN.{length, set, length-set}
use lib.Seq.{sets}
use Rattle.fault.specs.Fault.{faults_at, lower, first, First}
use Rattle.fault.proofs.Laws.{none-lower, lower-none, lower-assoc, first-append}
use Rattle.json_walk.specs.Walk.{elements_from, next_element_at}
use Rattle.json_walk.specs.declared.Element.{Element}
use Rattle.json_walk.proofs.Walks.{elements-turn, elements-end, elements-over}
use Rattle.json_tree.specs.Tree.{Json, items_of, tree_at}
use Rattle.json_tree.proofs.Trees.{place-tree}
use Rattle.event.specs.Values.{list_of}
use Rattle.event.specs.Reading.{Reading, Judged, fine, entry, read_all}
use Rattle.rule_text.specs.Inner.Reads.{Entries}

-- A single value that is an entry has its fault at its place, and its own value.
module _ {A : Type 0} (f : Json → Reading A) (s : List ℕ) (i : ℕ) where
  pub entry-fault : (n : ℕ) → ((l : ℕ) → n ≡ (f (tree_at l s i)).fault) → {b : First} → b ≡ first (faults_at n i) → (l : ℕ) → b ≡ first (entry f (tree_at l s i)).faults
  unfolding entry
  entry-fault n h e l = rw (place-tree l s i, ← (h l)) e

  pub entry_value : {a : A} → ((l : ℕ) → a ≡ (f (tree_at l s i)).value) → (l : ℕ) → a ≡ (entry f (tree_at l s i)).value
  unfolding entry
  entry_value h l = h l

-- The reading of the entries from a step on, where m came before: there are no more than the text has bytes.
abbrev pub rest_of : {A : Type 0} → (Json → Judged A) → (ℕ → ℕ → Json) → List ℕ → Option Element → ℕ → ℕ → Judged (List A)
rest_of f tree s step m l = read_all f (list_of (items_of (tree l) (elements_from (length s - m) s step)))

-- The reading of all entries, from the first step on.
abbrev pub all_of : {A : Type 0} → (Json → Judged A) → (ℕ → ℕ → Json) → List ℕ → Option Element → ℕ → Judged (List A)
all_of f tree s step l = read_all f (list_of (items_of (tree l) (elements_from (length s) s step)))

-- So many entries came before the step, and this fault decides in them, of the reading `all`.
pub record Counting {A : Type 0} (f : Json → Judged A) (tree : ℕ → ℕ → Json) (s : List ℕ) (all : ℕ → Judged (List A)) (step : Option Element) (m : ℕ) (k : First) : Type 0 where
  pub count : (l : ℕ) → m + length (rest_of f tree s step m l).value ≡ length (all l).value
  pub fault : (l : ℕ) → lower k (first (rest_of f tree s step m l).faults) ≡ first (all l).faults

-- What is stored of the entries, g, once the rest is stored too.
pub record Storing {A B : Type 0} (g : A → B) (f : Json → Judged A) (tree : ℕ → ℕ → Json) (s : List ℕ) (all : ℕ → Judged (List A)) (before after : List B) (step : Option Element) (m : ℕ) : Type 0 where
  pub list : (l : ℕ) → sets after m (map g (rest_of f tree s step m l).value) ≡ sets before 0 (map g (all l).value)
  pub same : length after ≡ length before

module _ {A : Type 0} (f : Json → Judged A) (tree : ℕ → ℕ → Json) (s : List ℕ) where
  pub rest-next : (m : ℕ) → m < length s → (e : Element) (l : ℕ)
      → rest_of f tree s (Some e) m l ≡
      record {
        value = (f (tree l e.value)).value ∷ (rest_of f tree s (next_element_at s e.after) (m + 1) l).value;
        faults = (f (tree l e.value)).faults ++ (rest_of f tree s (next_element_at s e.after) (m + 1) l).faults;
      }
  unfolding read_all list_of items_of
  rest-next m h e l = rw (elements-turn (length s) m h s e)

  pub rest-stop : (m : ℕ) {step : Option Element} → step ≡ None → (l : ℕ) → rest_of f tree s step m l ≡ fine []
  unfolding read_all list_of items_of
  rest-stop m e l = rw (e, elements-end (length s - m) s)

  pub rest-none : (m : ℕ) → length s ≤ m → (step : Option Element) (l : ℕ) → rest_of f tree s step m l ≡ fine []
  unfolding read_all list_of items_of
  rest-none m h step l = rw (elements-over (length s) m h s step)

  module _ (all : ℕ → Judged (List A)) where
    -- An entry that was read, with its fault b.
    goes_on : (e : Element) (m : ℕ) (k b : First) → m < length s → Counting f tree s all (Some e) m k → ((l : ℕ) → b ≡ first (f (tree l e.value)).faults)
        → Counting f tree s all (next_element_at s e.after) (m + 1) (lower k b)
    goes_on e m k b h c r =
        record {
          count = λ l.
              let p : m + suc (length (rest_of f tree s (next_element_at s e.after) (m + 1) l).value) ≡ length (all l).value = rw (rest-next m h e l) at (c.count l) in
              omega arith;
          fault = λ l.
              let p : lower k (first ((f (tree l e.value)).faults ++ (rest_of f tree s (next_element_at s e.after) (m + 1) l).faults)) ≡ first (all l).faults = rw (rest-next m h e l) at (c.fault l) in
              rw (r l, ← lower-assoc, ← first-append) p;
        }

    pub counting-goes-on : {step next : Option Element} {e : Element} {m : ℕ} {k j b : First} → step ≡ Some e → m < length s → Counting f tree s all step m k
        → next ≡ next_element_at s e.after → j ≡ lower k b → ((l : ℕ) → b ≡ first (f (tree l e.value)).faults)
        → Counting f tree s all next (m + 1) j
    counting-goes-on {step} {next} {e} {m} {k} {j} {b} p h c q w r = rw (q, w) (goes_on e m k b h (rw p at c) r)

    pub counting-ends : (step : Option Element) (m : ℕ) (k : First) → Counting f tree s all step m k → ((l : ℕ) → rest_of f tree s step m l ≡ fine [])
        → ((l : ℕ) → m ≡ length (all l).value) × ((l : ℕ) → k ≡ first (all l).faults)
    unfolding first
    counting-ends step m k c e = (
      λ l. (let p : m + 0 ≡ length (all l).value = rw (e l) at (c.count l) in omega arith),
      λ l. (let p : lower k None ≡ first (all l).faults = rw (e l) at (c.fault l) in sym (lower-none k) ∙ p),
    )

    module _ {B : Type 0} (g : A → B) where
      -- An entry whose stored part is b.
      stores : (before after : List B) (e : Element) (m : ℕ) (b : B) → m < length s → Storing g f tree s all before after (Some e) m
          → ((l : ℕ) → b ≡ g (f (tree l e.value)).value)
          → Storing g f tree s all before (set after m b) (next_element_at s e.after) (m + 1)
      stores before after e m b h c r =
          record {
            list = λ l. (
                let p : sets (set after m (g (f (tree l e.value)).value)) (suc m) (map g (rest_of f tree s (next_element_at s e.after) (m + 1) l).value) ≡ sets before 0 (map g (all l).value) = rw (rest-next m h e l) at (c.list l) in
                rw (add-one, r l) (rw add-one at p));
            same = length-set after m b ∙ c.same;
          }

      pub storing-goes-on : {step next : Option Element} {e : Element} {m : ℕ} {before after stored : List B} {b : B} → step ≡ Some e → m < length s
          → Storing g f tree s all before after step m → next ≡ next_element_at s e.after → stored ≡ set after m b → ((l : ℕ) → b ≡ g (f (tree l e.value)).value)
          → Storing g f tree s all before stored next (m + 1)
      storing-goes-on {step} {next} {e} {m} {before} {after} {stored} {b} p h c q w r = rw (q, w) (stores before after e m b h (rw p at c) r)

      pub storing-ends : (before after : List B) (step : Option Element) (m : ℕ) → Storing g f tree s all before after step m → ((l : ℕ) → rest_of f tree s step m l ≡ fine [])
          → (l : ℕ) → after ≡ sets before 0 (map g (all l).value)
      storing-ends before after step m c e l = rw (e l) at (c.list l)

  -- From the first entry on.
  pub counting-starts : (step : Option Element) → Counting f tree s (λ l. all_of f tree s step l) step 0 None
  counting-starts step = record { count = λ l. rw sub-zero (omega arith); fault = λ l. rw sub-zero (none-lower _) }

  pub storing-starts : {B : Type 0} (g : A → B) (before : List B) (step : Option Element) → Storing g f tree s (λ l. all_of f tree s step l) before before step 0
  storing-starts g before step = record { list = λ l. rw sub-zero; same = refl }

  -- A list whose entries are stored as they are.
  pub entries-end : (all : ℕ → Judged (List A)) (before after : List A) (step : Option Element) (m : ℕ) (k : First) → Counting f tree s all step m k → Storing (λ a. a) f tree s all before after step m
      → ((l : ℕ) → rest_of f tree s step m l ≡ fine []) → Entries all before after m k
  entries-end all before after step m k c d e =
      let p = counting-ends all step m k c e in
      record {
        list = λ l. (let q : after ≡ sets before 0 (map (λ a. a) (all l).value) = storing-ends all (λ a. a) before after step m d e l in q ∙ ap (λ (r : List A). sets before 0 r) (map-id (all l).value));
        count = p.0;
        fault = p.1;
      }
