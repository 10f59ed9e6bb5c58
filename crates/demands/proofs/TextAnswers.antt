-- The definitions ask 1 to 9 one after the other: what they give is the first of the conditions that holds.
use Rattle.std.specs.Prelude.{if◌then◌else◌, Some, Result, Ok, Err}
use Prim.Native.Nat.{ℕ, ◌+◌}
use mathlib.Core.Bool.{Bool, true, false, not, ◌||◌}
use mathlib.Core.List.{List, [], ◌∷◌}
use mathlib.Core.Logic.{◌↔◌}
use mathlib.Core.Path.{◌≡◌, refl, sym, ap, ◌∙◌}
use native.Mathlib.Omega.{arith}
use lib.Dec.{eqb, ltb}
use lib.ListN.{length}
use Rattle.fault.specs.Fault.{first, first_number, a_fault}
use Rattle.json_text.specs.Bytes.{space_at, next}
use Rattle.json_text.specs.declared.SyntaxError.{SyntaxError}
use Rattle.json_text.specs.declared.SyntaxError.TheVariants.{Malformed, TooDeep}
use Rattle.json_value.specs.Values.{value_at, end_at, text_at, levels}
use Rattle.json_value.proofs.Levels.{Stays, to-deep, bad-deep, text-stays}
use Rattle.json_tree.specs.Faults.{faulty}
use Rattle.json_strict.specs.Answer.{limit, paired_answer, read_answer, answer_of}
use Rattle.json_strict.specs.Surrogates.{pairs_at}
use Rattle.json_tree.specs.Tree.{text_tree}
use Rattle.event.specs.Values.{object}
use Rattle.event.specs.Event.{faults_of, is_no_event, event_first, event_fault}
use Rattle.event.proofs.Numbers.{faults-numbered}
use Rattle.call_definitions.specs.Call.{text_fault}
use Rattle.demands.specs.Conditions.{Numbered, applies, is_deep, is_read, is_json, is_unpaired, fault_conditions, text_conditions}
use Rattle.demands.proofs.Given.{given_by, given_is, Refusals, given-join, none-applies, nothing-applies}
use Rattle.demands.proofs.FaultConditions.{fault-given}

module _ (s : List ℕ) where
  -- ---- 1 to 4

  json_conditions : List Numbered
  json_conditions =
      record { number = 1; holds = ltb limit (length s) }
      ∷ record { number = 2; holds = is_deep (text_at s) }
      ∷ record { number = 3; holds = not (is_json s) || is_unpaired s }
      ∷ record { number = 4; holds = faulty (text_tree s) }
      ∷ []

  -- a text that is not too deep is read with more levels as with 16
  json-is : Stays (text_at s) (next (value_at (levels + length s) s (space_at s 0)) (λ j. end_at s (space_at s j)))
      → (text_at s ≡ Err TooDeep → ⊥) → is_json s ≡ is_read (text_at s)
  unfolding is_json
  json-is stays h = ap is_read (sym (stays h))

  json-given : given_by json_conditions ≡ answer_of s
  unfolding json_conditions given_by answer_of read_answer paired_answer is_unpaired
  json-given = go (ltb limit (length s)) (text_at s) (json-is (text-stays (levels + length s) (omega arith) s))
    where
      paired : (p : Result ℕ SyntaxError) → (if not (is_read p) then 3 else (if faulty (text_tree s) then 4 else 0)) ≡ paired_answer s p
      paired (Ok i) = refl
      paired (Err e) = refl

      go : (long : Bool) (r : Result ℕ SyntaxError) → ((r ≡ Err TooDeep → ⊥) → is_json s ≡ is_read r)
          → (if long then 1 else if is_deep r then 2 else if not (is_json s) || not (is_read (pairs_at (length s) s 0)) then 3 else if faulty (text_tree s) then 4 else 0)
          ≡ (if long then 1 else read_answer s r)
      go true r h = refl
      go false (Ok i) h = rw (h (to-deep i)) (paired (pairs_at (length s) s 0))
      go false (Err Malformed) h = rw (h bad-deep)
      go false (Err TooDeep) h = refl

  -- ---- 5 to 9

  event_conditions : List Numbered
  event_conditions = record { number = 5; holds = is_no_event (object (text_tree s)) } ∷ fault_conditions (faults_of s)

  event-given : given_by event_conditions ≡ event_fault s
  unfolding event_conditions given_by event_fault event_first
  event-given = go (is_no_event (object (text_tree s)))
    where
      go : (t : Bool) → (if t then 5 else given_by (fault_conditions (faults_of s))) ≡ first_number (if t then Some (a_fault 5 0) else first (faults_of s))
      go true = refl
      go false = sym (given_is (fault-given (faults_of s) (faults-numbered s)))

  -- ---- 1 to 9

  pub text-given : given_by (text_conditions s) ≡ text_fault s
  unfolding text_conditions json_conditions event_conditions text_fault
  text-given =
      given-join json_conditions event_conditions (refl, (refl, (refl, (refl, tt))))
      ∙ ap (λ (n : ℕ). if eqb n 0 then given_by event_conditions else n) json-given
      ∙ ap (λ (n : ℕ). if eqb (answer_of s) 0 then n else answer_of s) event-given

  pub text-refusals : Refusals (text_conditions s)
  unfolding text_conditions fault_conditions
  text-refusals = (refl, (refl, (refl, (refl, (refl, (refl, (refl, (refl, (refl, (refl, (refl, (refl, (refl, (refl, (refl, tt)))))))))))))))

  -- "An event is accepted when none of 1 to 9 applies to its text."
  pub accepted-none : (text_fault s ≡ 0) ↔ ((n : ℕ) → applies n (text_conditions s) ≡ false)
  accepted-none = (
    λ e. none-applies (text_conditions s) text-refusals (text-given ∙ e),
    λ h. sym text-given ∙ nothing-applies (text_conditions s) h,
  )
