-- Request 4: what the call for the place of a fault hands back.
use Rattle.std.specs.Prelude.{if◌then◌else◌, Some, None, Result, Ok, Err}
use Prim.Native.Nat.{ℕ}
use mathlib.Core.Bool.{Bool, true, false}
use mathlib.Core.List.{List}
use mathlib.Core.Logic.{◌↔◌}
use mathlib.Core.Option.{Option}
use mathlib.Core.Path.{◌≡◌, refl, sym, ◌∙◌, subst}
use lib.Dec.{eqb, ltb}
use lib.IntN.{ℤ}
use lib.ListN.{length}
use borrow.Author.Tests.{ne_eqb}
use Rattle.signed.proofs.Parts.{false-true}
use Rattle.fault.specs.declared.Fault.{Fault}
use Rattle.fault.specs.Fault.{is_wrong, first, first_number, first_place, First, a_fault}
use Rattle.json_text.specs.declared.SyntaxError.{SyntaxError}
use Rattle.json_text.specs.declared.SyntaxError.TheVariants.{Malformed, TooDeep}
use Rattle.json_value.specs.Values.{text_at}
use Rattle.json_tree.specs.Faults.{faulty}
use Rattle.json_tree.specs.Tree.{text_tree}
use Rattle.json_tree.specs.Begins.{begins}
use Rattle.json_strict.specs.Answer.{limit, paired_answer, read_answer, answer_of}
use Rattle.json_strict.specs.Surrogates.{pairs_at}
use Rattle.rule.specs.Lists.{any}
use Rattle.event.specs.Types.{Text, Details}
use Rattle.event.specs.Values.{object}
use Rattle.event.specs.Event.{faults_of, is_no_event, event_first, event_fault, event_place}
use Rattle.event.proofs.Begins.{faults-begin}
use Rattle.event.proofs.Numbers.{faults-numbered}
use Rattle.event.proofs.ValueNumbers.{pick}
use Rattle.call_definitions.specs.Utc.{ZoneTable}
use Rattle.call_definitions.specs.Call.{text_fault, locate_text, expand_text, text_of}
use Rattle.call_definitions.specs.Results.{Locates, Gives, Shows}
use Rattle.demands.specs.Conditions.{Given, earlier, is_at, text_conditions}
use Rattle.demands.specs.One.{PlaceAnswered}
use Rattle.demands.proofs.Given.{given_by_lem}
use Rattle.demands.proofs.FaultConditions.{each-there, fault-located}
use Rattle.demands.proofs.TextAnswers.{text-given}

-- ---- 1 to 5 have no place

abbrev NotWrong : ℕ → Type 0
NotWrong n = is_wrong n ≡ false

answer-low : (s : List ℕ) → NotWrong (answer_of s)
unfolding is_wrong answer_of
answer-low s = pick NotWrong (ltb limit (length s)) _ _ refl (read (text_at s))
  where
    paired : (r : Result ℕ SyntaxError) → NotWrong (paired_answer s r)
    paired (Ok i) = unfold paired_answer is_wrong in pick NotWrong (faulty (text_tree s)) _ _ refl refl
    paired (Err e) = unfold paired_answer is_wrong in refl

    read : (r : Result ℕ SyntaxError) → NotWrong (read_answer s r)
    read (Ok i) = unfold read_answer in paired (pairs_at (length s) s 0)
    read (Err Malformed) = unfold read_answer is_wrong in refl
    read (Err TooDeep) = unfold read_answer is_wrong in refl

-- ---- the place

-- What is told of a number and its place.
record Placed (s : List ℕ) (answer place : ℕ) : Type 0 where
  there : is_wrong answer ≡ true → any (is_at answer place) (faults_of s) ≡ true
  first : is_wrong answer ≡ true → any (earlier answer place) (faults_of s) ≡ false
  other : is_wrong answer ≡ false → place ≡ 0

without-place : (s : List ℕ) (answer : ℕ) → NotWrong answer → Placed s answer 0
without-place s answer e = record { there = λ w. false-true (sym e ∙ w); first = λ w. false-true (sym e ∙ w); other = λ w. refl }

no-other-place : (x : First) → is_wrong (first_number x) ≡ false → first_place x ≡ 0
no-other-place None w = refl
no-other-place (Some f) w = rw w

event-placed : (s : List ℕ) → Placed s (event_fault s) (event_place s)
unfolding event_fault event_place event_first
event-placed s = go (is_no_event (object (text_tree s)))
  where
    go : (t : Bool) → Placed s (first_number (if t then Some (a_fault 5 0) else first (faults_of s))) (first_place (if t then Some (a_fault 5 0) else first (faults_of s)))
    go true = unfold is_wrong in without-place s 5 refl
    go false =
        record {
          there = λ w. (fault-located (faults_of s) (faults-numbered s) w).0;
          first = λ w. (fault-located (faults_of s) (faults-numbered s) w).1;
          other = no-other-place (first (faults_of s));
        }

text-placed : (s : List ℕ) → Placed s (locate_text s).answer (locate_text s).place
unfolding locate_text text_fault
text-placed s = go (eqb (answer_of s) 0)
  where
    go : (t : Bool) → Placed s (if t then event_fault s else answer_of s) (if t then event_place s else 0)
    go true = event-placed s
    go false = without-place s (answer_of s) (answer-low s)

-- ---- the call

module _ (s : List ℕ) (answer place : ℕ) (g : Locates (locate_text s) answer place) where
  is-fault : answer ≡ text_fault s
  is-fault = g.answer_is ∙ (unfold locate_text in refl)

  pub place-answered : PlaceAnswered s answer place
  place-answered =
      let told = subst (λ (p : ℕ). Placed s answer p) (sym g.place_is) (subst (λ (n : ℕ). Placed s n (locate_text s).place) (sym g.answer_is) (text-placed s)) in
      record {
        one = subst (Given (text_conditions s)) (text-given s ∙ sym is-fault) (given_by_lem (text_conditions s));
        there = told.there;
        begins = λ w. each-there (λ (f : Fault). begins f.place (text_tree s) ≡ true) answer place (faults_of s) (faults-begin s) (told.there w);
        first = told.first;
        other = told.other;
      }

  pub place-accepted : (answer ≡ 0) ↔ (text_fault s ≡ 0)
  place-accepted = (λ e. sym is-fault ∙ e, λ e. is-fault ∙ e)

  -- 0 has no place
  pub place_none : text_fault s ≡ 0 → (answer ≡ 0) × (place ≡ 0)
  place_none e = (is-fault ∙ e, place-answered.other (rw (is-fault ∙ e) (unfold is_wrong in refl)))

  -- the other calls on the text answer the same number
  pub table_same : (answer ≡ 0 → ⊥) → (zones : ZoneTable) (from to : ℤ) (buffer : List ℕ) (answer' size : ℕ) (after : List ℕ)
      → Gives (expand_text zones s from to buffer) answer' size after → answer' ≡ answer
  unfolding expand_text
  table_same h zones from to buffer answer' size after g' =
      g'.answer_is ∙ (rw (ne_eqb (text_fault s) 0 (λ e. h (is-fault ∙ e))) (sym is-fault))

  pub text_same : (which : Details → Option Text) → (answer ≡ 0 → ⊥) → (date : ℤ) (answer' start size : ℕ)
      → Shows (text_of which s date) answer' start size → answer' ≡ answer
  unfolding text_of
  text_same which h date answer' start size g' = g'.answer_is ∙ (rw (ne_eqb (text_fault s) 0 (λ e. h (is-fault ∙ e))) (sym is-fault))
