-- A list that has no fault fits the array of 64 entries, and is its beginning.
use Rattle.std.specs.Prelude.{if◌then◌else◌}
use Prim.Native.Nat.{ℕ, ◌+◌, ◌≤◌}
use mathlib.Core.Bool.{Bool, true, false}
use mathlib.Core.List.{List, [], ◌∷◌, map}
use mathlib.Core.Option.{Option, none, some}
use mathlib.Core.Path.{◌≡◌, refl, sym, ◌∙◌}
use native.Mathlib.Omega.{arith}
use lib.Dec.{ltb}
use lib.IntN.{ℤ}
use lib.ListN.{length, take, drop, length-map}
use lib.Seq.{sets, sets-eq, take-append_seam}
use borrow.Author.Tests.{ltb-false}
use Rattle.fault.specs.Fault.{faults_at, First}
use Rattle.fault.proofs.Laws.{append-none, first-none, fault-some}
use Rattle.json_tree.specs.Tree.{Json, place_of}
use Rattle.rule.specs.Written.{NDay}
use Rattle.rule.specs.Inner.Read.{ndays}
use Rattle.event.specs.Values.{array}
use Rattle.event.specs.Reading.{Judged, inside, present, read_all, limited}
use Rattle.event.specs.Rules.{read_nday, entries_of, by_list}
use Rattle.rule_text.specs.Inner.Reads.{Entries}
use Rattle.rule_text.specs.Inner.Lists.{day_of, nth_of, DayEntries}
use Rattle.rule_text.specs.Inner.Parts.{Collected, DaysCollected}
use Rattle.rule_text.proofs.ListLaws.{entries-value, entries-length}
use Rattle.rule_text.proofs.DayLaws.{ndays-back, weekdays-length, nths-length}

pub take-sets : {A : Type 0} (before v : List A) → length v ≤ length before → take (length v) (sets before 0 v) ≡ v
take-sets before v h =
    let p : 0 + length v ≤ length before = omega arith in
    rw (sets-eq v before 0 p) (take-append_seam v (drop (0 + length v) before))

-- ---- 9: over "64 entries in a by-list"

pub few : (most at n : ℕ) (c : Bool) → ltb most n ≡ c → (if c then faults_at 9 at else []) ≡ [] → n ≤ most
few most at n true e z = absurd (fault-some 9 at refl z)
few most at n false e z = ltb-false most n e

module _ {A : Type 0} (f : Json → Judged A) where
  entries-few : (at : ℕ) (vs : List Json) → (entries_of f at vs).faults ≡ [] → length (entries_of f at vs).value ≤ 64
  unfolding entries_of limited
  entries-few at [] e = omega arith
  entries-few at (v ∷ vs) e = few 64 at _ _ refl (append-none (read_all f (v ∷ vs)).faults _ e).1

  array-few : (at : ℕ) (vs : Option (List Json)) → (inside [] at (entries_of f at) vs).faults ≡ [] → length (inside [] at (entries_of f at) vs).value ≤ 64
  unfolding inside
  array-few at none e = omega arith
  array-few at (some vs) e = entries-few at vs e

  pub list-few : (o : Option Json) → (by_list f o).faults ≡ [] → length (by_list f o).value ≤ 64
  unfolding by_list present
  list-few none e = omega arith
  list-few (some v) e = array-few (place_of v) (array v) e

pub collected : {A : Type 0} {tree : ℕ → Judged (List A)} {before after : List A} {m : ℕ} {n : First} → Entries tree before after m n → length before ≡ 64
    → ((l : ℕ) → (tree l).faults ≡ [] → length (tree l).value ≤ 64) → Collected tree after m n
collected {A} {tree} {before} {after} {m} {n} h b few64 =
    record {
      fault = h.fault;
      value = λ z l. (
          let p : length (tree l).value ≤ 64 = few64 l (first-none _ (sym (h.fault l) ∙ z)) in
          rw (h.list l, h.count l) (take-sets before (tree l).value (omega arith)));
      within = λ z. (
          let p : length (tree 0).value ≤ 64 = few64 0 (first-none _ (sym (h.fault 0) ∙ z)) in
          let q : m ≡ length (tree 0).value = h.count 0 in
          let r : length after ≡ length before = entries-length h in
          omega arith);
    }

-- ---- byDay

array_back : (at : ℕ) (vs : Option (List Json)) → let all = (inside [] at (entries_of read_nday at) vs).value in ndays (map day_of all) (map nth_of all) ≡ all
unfolding inside ndays
array_back at none = refl
array_back at (some vs) = rw (entries-value read_nday at vs) (ndays-back vs)

pub list_back : (o : Option Json) → ndays (map day_of (by_list read_nday o).value) (map nth_of (by_list read_nday o).value) ≡ (by_list read_nday o).value
unfolding by_list present ndays
list_back none = refl
list_back (some v) = array_back (place_of v) (array v)

take-mapped : {A B : Type 0} (g : A → B) (before : List B) (v : List A) → length v ≤ length before → take (length v) (sets before 0 (map g v)) ≡ map g v
take-mapped g before v h =
    let p : length (map g v) ≡ length v = length-map v g in
    let q : length (map g v) ≤ length before = omega arith in
    rw p at (take-sets before (map g v) q)

pub days-collected : {tree : ℕ → Judged (List NDay)} {ws ws2 : List ℕ} {zs zs2 : List ℤ} {m : ℕ} {n : First} {b : Bool} → DayEntries tree ws ws2 zs zs2 m b n → length ws ≡ 64 → length zs ≡ 64
    → ((l : ℕ) → (tree l).faults ≡ [] → length (tree l).value ≤ 64) → ((l : ℕ) → ndays (map day_of (tree l).value) (map nth_of (tree l).value) ≡ (tree l).value)
    → DaysCollected tree ws2 zs2 m b n
days-collected {tree} {ws} {ws2} {zs} {zs2} {m} {n} {b} h p q few64 back =
    record {
      fault = h.fault;
      any = h.any;
      value = λ z l. (
          let k : length (tree l).value ≤ 64 = few64 l (first-none _ (sym (h.fault l) ∙ z)) in
          rw (h.count l, h.weekdays l, h.nths l, take-mapped day_of ws (tree l).value (omega arith), take-mapped nth_of zs (tree l).value (omega arith)) (back l));
      weekdays = λ z. (
          let k : length (tree 0).value ≤ 64 = few64 0 (first-none _ (sym (h.fault 0) ∙ z)) in
          let c : m ≡ length (tree 0).value = h.count 0 in
          let r : length ws2 ≡ length ws = weekdays-length h in
          omega arith);
      nths = λ z. (
          let k : length (tree 0).value ≤ 64 = few64 0 (first-none _ (sym (h.fault 0) ∙ z)) in
          let c : m ≡ length (tree 0).value = h.count 0 in
          let r : length zs2 ≡ length zs = nths-length h in
          omega arith);
    }
