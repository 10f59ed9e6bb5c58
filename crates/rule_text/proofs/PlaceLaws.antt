-- Lists of rules: their faults, and their rules by the places where they stand.
use Rattle.std.specs.Prelude.{if◌then◌else◌, None}
use Prim.Native.Nat.{ℕ, zero, suc, ◌≤◌, ◌<◌}
use mathlib.Core.Bool.{Bool, true, false}
use mathlib.Core.List.{List, [], ◌∷◌, ◌++◌, map}
use mathlib.Core.Path.{◌≡◌, refl, sym, ap, ◌∙◌}
use lib.Dec.{eqb, ltb}
use lib.ListN.{length, get_or, take, length-map}
use Rattle.fault.specs.Fault.{faults_at, first, First}
use Rattle.fault.proofs.Laws.{append-none}
use Rattle.rule_text.proofs.JoinLaws.{first-limit}
use Rattle.rule_text.specs.Inner.Bounds.{All, nil, more}
use Rattle.rule_text.proofs.CollectLaws.{take-sets, few}
use native.Mathlib.Omega.{arith}
use Rattle.json_text.specs.Bytes.{byte}
use Rattle.json_walk.specs.Walk.{elements_of}
use Rattle.json_walk.specs.declared.Element.{Element}
use Rattle.json_tree.specs.Tree.{tree_at, items_of}
use Rattle.json_tree.proofs.Trees.{place-tree}
use Rattle.rule.specs.Written.{RecurrenceRule}
use Rattle.event.specs.Values.{list_of}
use Rattle.event.specs.Reading.{Judged, faulty, inside, read_all, limited}
use Rattle.event.specs.Rules.{read_rule, read_rules}
use Rattle.rule_text.specs.Inner.Reads.{entries_at, Entries}
use Rattle.rule_text.specs.Inner.Places.{value_of, places_at, Places, read_place, rules_fault}
use Rattle.rule_text.proofs.ListLaws.{array-is, array-not}

-- ---- places

places-read : (l : ℕ) (s : List ℕ) (es : List Element) → (read_all read_place (list_of (items_of (λ v. tree_at l s v) es))).value ≡ map value_of es
unfolding read_all list_of items_of
places-read l s [] = refl
places-read l s (e ∷ es) = rw (place-tree l s e.value, places-read l s es)

module _ (s : List ℕ) (i : ℕ) where
  pub places_is : {before after : List ℕ} {m : ℕ} → eqb (byte s i) 0x5B ≡ true
      → Entries (λ l. entries_at read_place l s i) before after m None → Places s i before after m
  unfolding places_at
  places_is e h =
      record {
        list = rw (e, ← (places-read 0 s (elements_of s i))) (h.list 0);
        count = rw (e, ← (places-read 0 s (elements_of s i))) (h.count 0);
      }

  pub places-not : {before : List ℕ} → eqb (byte s i) 0x5B ≡ false → Places s i before before 0
  unfolding places_at
  places-not e = record { list = rw e; count = rw e }

-- ---- rules

limited-value : (at : ℕ) (r : Judged (List RecurrenceRule)) → (limited 8 at r).value ≡ r.value
unfolding limited
limited-value at r = refl

each-rule : (l : ℕ) (s : List ℕ) (es : List Element) → (read_all read_rule (list_of (items_of (λ v. tree_at l s v) es))).value ≡ map (λ v. (read_rule (tree_at l s v)).value) (map value_of es)
unfolding read_all list_of items_of
each-rule l s [] = refl
each-rule l s (e ∷ es) = rw (each-rule l s es)

module _ (l : ℕ) (s : List ℕ) (i : ℕ) where
  rules-is : eqb (byte s i) 0x5B ≡ true → read_rules (tree_at (suc l) s i) ≡ limited 8 i (entries_at read_rule l s i)
  unfolding read_rules inside
  rules-is e = rw (place-tree (suc l) s i, array-is l s i e)

  pub rules-not : eqb (byte s i) 0x5B ≡ false → read_rules (tree_at (suc l) s i) ≡ faulty [] 20 i
  unfolding read_rules inside
  rules-not e = rw (place-tree (suc l) s i, array-not l s i e)

  pub rules-fault-is : {m : ℕ} {n k : First} → eqb (byte s i) 0x5B ≡ true → m ≡ length (entries_at read_rule l s i).value
      → n ≡ first (entries_at read_rule l s i).faults → k ≡ rules_fault m i n → k ≡ first (read_rules (tree_at (suc l) s i)).faults
  unfolding limited rules_fault
  rules-fault-is {m} {n} {k} e p q r = rw (rules-is e, ← p) (r ∙ ap (rules_fault m i) q ∙ sym (first-limit (ltb 8 m) i _))

  -- The rules of a list are those that stand at its places: each is read when it is its turn.
  pub rules-are : (read_rules (tree_at (suc l) s i)).value ≡ map (λ v. (read_rule (tree_at l s v)).value) (places_at s i)
  unfolding places_at
  rules-are = go (eqb (byte s i) 0x5B) refl
    where
      go : (c : Bool) → eqb (byte s i) 0x5B ≡ c → (read_rules (tree_at (suc l) s i)).value ≡ map (λ v. (read_rule (tree_at l s v)).value) (if c then map value_of (elements_of s i) else [])
      go true e = rw (rules-is e) (limited-value i _ ∙ each-rule l s (elements_of s i))
      go false e = rw (rules-not e)

-- ---- a list without a fault

each-fault : (l : ℕ) (s : List ℕ) (es : List Element) → (read_all read_rule (list_of (items_of (λ v. tree_at l s v) es))).faults ≡ [] → All (λ v. (read_rule (tree_at l s v)).faults ≡ []) (map value_of es)
unfolding read_all list_of items_of
each-fault l s [] e = nil
each-fault l s (v ∷ es) e = let p = append-none (read_rule (tree_at l s v.value)).faults _ e in more p.0 (each-fault l s es p.1)

module _ (l : ℕ) (s : List ℕ) (i : ℕ) (none-at : (read_rules (tree_at (suc l) s i)).faults ≡ []) where
  -- It has at most 8 rules, and each of them is read without a fault.
  pub rules-few : length (places_at s i) ≤ 8
  unfolding places_at limited
  rules-few = go (eqb (byte s i) 0x5B) refl
    where
      go : (c : Bool) → eqb (byte s i) 0x5B ≡ c → length (if c then map value_of (elements_of s i) else []) ≤ 8
      go true e =
          let all = entries_at read_rule l s i in
          let p : all.faults ++ (if ltb 8 (length all.value) then faults_at 9 i else []) ≡ [] = rw (rules-is l s i e) at none-at in
          let q : length all.value ≤ 8 = few 8 i _ _ refl (append-none all.faults _ p).1 in
          let r : length all.value ≡ length (map value_of (elements_of s i)) = ap length (each-rule l s (elements_of s i)) ∙ length-map (map value_of (elements_of s i)) (λ v. (read_rule (tree_at l s v)).value) in
          omega arith
      go false e = omega arith

  pub rules-each : All (λ v. (read_rule (tree_at l s v)).faults ≡ []) (places_at s i)
  unfolding places_at limited
  rules-each = go (eqb (byte s i) 0x5B) refl
    where
      go : (c : Bool) → eqb (byte s i) 0x5B ≡ c → All (λ v. (read_rule (tree_at l s v)).faults ≡ []) (if c then map value_of (elements_of s i) else [])
      go true e =
          let all = entries_at read_rule l s i in
          let p : all.faults ++ (if ltb 8 (length all.value) then faults_at 9 i else []) ≡ [] = rw (rules-is l s i e) at none-at in
          each-fault l s (elements_of s i) (append-none all.faults _ p).0
      go false e = nil

-- With room for all, the places stored are those of the list.
pub places-stored : (s : List ℕ) (i : ℕ) {before after : List ℕ} {m : ℕ} → Places s i before after m → m ≤ length before → take m after ≡ places_at s i
places-stored s i {before} {after} {m} h k =
    let p : m ≡ length (places_at s i) = h.count in
    rw (h.list, p) (take-sets before (places_at s i) (omega arith))

-- ---- by number

mapped_at : {A B : Type 0} (f : A → B) (xs : List A) (k : ℕ) (d : B) (e : A) → k < length xs → get_or (map f xs) k d ≡ f (get_or xs k e)
mapped_at f [] k d e h = absurd (omega arith)
mapped_at f (x ∷ xs) zero d e h = refl
mapped_at f (x ∷ xs) (suc k) d e h = mapped_at f xs k d e (omega arith)

-- The k-th rule is the one at the k-th place.
pub rule-at : (l : ℕ) (s : List ℕ) (i k : ℕ) (d : RecurrenceRule) → k < length (places_at s i) → get_or (read_rules (tree_at (suc l) s i)).value k d ≡ (read_rule (tree_at l s (get_or (places_at s i) k 0))).value
rule-at l s i k d h = rw (rules-are l s i) (mapped_at (λ v. (read_rule (tree_at l s v)).value) (places_at s i) k d 0 h)

pub all-at : {A : Type 0} (P : A → Type 0) {xs : List A} → All P xs → (k : ℕ) (e : A) → k < length xs → P (get_or xs k e)
all-at P nil k e h = absurd (omega arith)
all-at P (more p ps) zero e h = p
all-at P (more p ps) (suc k) e h = all-at P ps k e (omega arith)
