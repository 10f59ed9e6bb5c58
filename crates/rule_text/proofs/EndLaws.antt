-- What ends a rule, by which of `until` and `count` are there.
use Rattle.std.specs.Prelude.{Some, None}
use Prim.Native.Nat.{ℕ}
use mathlib.Core.List.{List}
use mathlib.Core.Option.{Option, none, some}
use mathlib.Core.Path.{◌≡◌, refl, sym, ap, ◌∙◌}
use Rattle.fault.specs.Fault.{faults_at, lower, first, First, a_fault}
use Rattle.fault.proofs.Laws.{none-lower, lower-none, lower-zero, first-all, fault-here, at_none}
use Rattle.json_tree.specs.Tree.{Json, tree_at}
use Rattle.json_tree.proofs.Trees.{place-tree}
use Rattle.rule.specs.declared.End.TheVariants.{Never, Until, Count}
use Rattle.rule.specs.Inner.Read.{until_from, count_from}
use Rattle.json_text.specs.Ascii.{ascii}
use Rattle.event.specs.Properties.{read_until}
use Rattle.event.specs.Reading.{Reading, maybe, place_in, placed}
use Rattle.event.specs.Rules.{both_ends, read_count}
use Rattle.rule_text.specs.Inner.Members.{member_at}
use Rattle.rule_text.specs.Inner.Parts.{until_at, count_at, ends_faults, EndsRead}

-- A member that is there has its fault at its value, and one that is not has none.
module _ {A : Type 0} (f : Json → Reading A) (s : List ℕ) (i : ℕ) {o : Option Json} where
  there : (l u : ℕ) {a : ℕ} {x : First} → o ≡ some (tree_at l s u) → a ≡ (f (tree_at l s u)).fault → x ≡ first (faults_at a u) → x ≡ first (placed i (maybe f) o).faults
  unfolding placed place_in maybe
  there l u e p q = rw (e, place-tree l s u, ← p) q

  gone : o ≡ none → None ≡ first (placed i (maybe f) o).faults
  unfolding placed place_in maybe first faults_at
  gone e = rw e

-- 7 at the rule, where both are there.
module _ (i : ℕ) {c : Option Json} (u : Option Json) where
  both : {v w : Json} → c ≡ some v → u ≡ some w → Some (a_fault 7 i) ≡ first (both_ends i c u)
  unfolding both_ends
  both p q = rw (p, q) (sym (fault-here 7 i refl))

  no-count : c ≡ none → None ≡ first (both_ends i c u)
  unfolding both_ends first
  no-count p = rw p

  no-until : {v : Json} → c ≡ some v → u ≡ none → None ≡ first (both_ends i c u)
  unfolding both_ends first
  no-until p q = rw (p, q)

never : {P : Type 0} (x y : First) (i : ℕ) → lower x (lower y (Some (a_fault 7 i))) ≡ None → P
never x y i e = absurd (at_none 7 i (lower-zero y _ (lower-zero x _ e).1).1)

module _ (s : List ℕ) (i : ℕ) where
  joins : (l : ℕ) {x y z n : First} → n ≡ lower x (lower y z) → x ≡ first (until_at l s i).faults → y ≡ first (count_at l s i).faults
      → z ≡ first (both_ends i (member_at l s i (ascii "count")) (member_at l s i (ascii "until"))) → n ≡ first (ends_faults l s i)
  joins l e p q r = e ∙ (λ j. lower (p j) (lower (q j) (r j))) ∙ sym (first-all _)

  pub ends-both : (u c : ℕ) {a b : ℕ} {x y k n : First} → ((l : ℕ) → member_at l s i (ascii "until") ≡ some (tree_at l s u)) → ((l : ℕ) → member_at l s i (ascii "count") ≡ some (tree_at l s c))
      → ((l : ℕ) → a ≡ (read_until (tree_at l s u)).fault) → ((l : ℕ) → b ≡ (read_count (tree_at l s c)).fault) → x ≡ first (faults_at a u) → y ≡ first (faults_at b c)
      → k ≡ lower y (Some (a_fault 7 i)) → n ≡ lower x k → EndsRead s i Never n
  ends-both u c {a} {b} {x} {y} {k} {n} hu hc ha hb px py p q =
      let all : n ≡ lower x (lower y (Some (a_fault 7 i))) = q ∙ ap (lower x) p in
      record {
        fault = λ l. joins l all (there read_until s i l u (hu l) (ha l) px) (there read_count s i l c (hc l) (hb l) py) (both i _ (hc l) (hu l));
        until = λ z l. never x y i (sym all ∙ z);
        count = λ z l. never x y i (sym all ∙ z);
      }

  pub ends-count : (c : ℕ) {m b : ℕ} {n : First} → ((l : ℕ) → member_at l s i (ascii "until") ≡ none) → ((l : ℕ) → member_at l s i (ascii "count") ≡ some (tree_at l s c))
      → ((l : ℕ) → m ≡ (read_count (tree_at l s c)).value) → ((l : ℕ) → b ≡ (read_count (tree_at l s c)).fault) → n ≡ first (faults_at b c) → EndsRead s i (Count m) n
  unfolding placed maybe until_from count_from
  ends-count c {m} {b} {n} hu hc hm hb pn =
      record {
        fault = λ l. joins l (sym (none-lower (lower n None) ∙ lower-none n)) (gone read_until s i (hu l)) (there read_count s i l c (hc l) (hb l) pn) (no-until i _ (hc l) (hu l));
        until = λ z l. rw (hu l);
        count = λ z l. rw (hc l) (ap some (hm l));
      }

  pub ends-until : (u : ℕ) {m a : ℕ} {n : First} → ((l : ℕ) → member_at l s i (ascii "until") ≡ some (tree_at l s u)) → ((l : ℕ) → member_at l s i (ascii "count") ≡ none)
      → ((l : ℕ) → m ≡ (read_until (tree_at l s u)).value) → ((l : ℕ) → a ≡ (read_until (tree_at l s u)).fault) → n ≡ first (faults_at a u) → EndsRead s i (Until m) n
  unfolding placed maybe until_from count_from
  ends-until u {m} {a} {n} hu hc hm ha pn =
      record {
        fault = λ l. joins l (sym (ap (lower n) (none-lower None) ∙ lower-none n)) (there read_until s i l u (hu l) (ha l) pn) (gone read_count s i (hc l)) (no-count i _ (hc l));
        until = λ z l. rw (hu l) (ap some (hm l));
        count = λ z l. rw (hc l);
      }

  pub ends-never : ((l : ℕ) → member_at l s i (ascii "until") ≡ none) → ((l : ℕ) → member_at l s i (ascii "count") ≡ none) → EndsRead s i Never None
  unfolding placed maybe until_from count_from
  ends-never hu hc =
      record {
        fault = λ l. joins l (sym (none-lower (lower None None) ∙ none-lower None)) (gone read_until s i (hu l)) (gone read_count s i (hc l)) (no-count i _ (hc l));
        until = λ z l. rw (hu l);
        count = λ z l. rw (hc l);
      }
