-- Demand 1 of every call that keeps its contract: `Gives (expand_text ..)` is that of the sheet's calls, `Shows (text_of ..)` and
-- `Tells (text_of ..)` are those of the texts'.
use Rattle.std.specs.Prelude.{if◌then◌else◌}
use Prim.Native.Nat.{ℕ}
use mathlib.Core.Bool.{Bool, true, false, not, ◌&&◌, ◌||◌}
use mathlib.Core.List.{List, [], ◌∷◌}
use mathlib.Core.Option.{Option, none, some}
use mathlib.Core.Path.{◌≡◌, refl, sym, ap, ◌∙◌, subst}
use lib.Dec.{eqb}
use lib.IntN.{ℤ}
use lib.ListN.{take, drop}
use borrow.Author.Tests.{eqb-true, ne_eqb}
use Rattle.rule.proofs.Bools.{by}
use Rattle.keywords.specs.declared.Privacy.{Privacy}
use Rattle.event.specs.Types.{Text, Details, Event}
use Rattle.event.specs.Event.{event_of}
use Rattle.call_definitions.specs.Occurrence.{is_occurrence, details_at}
use Rattle.call_definitions.specs.Utc.{ZoneTable}
use Rattle.call_definitions.specs.Bytes.{table_of}
use Rattle.call_definitions.specs.Answer.{is_secret, is_public, answer_for, outcome_by, expanded, date_time_of, text_answer_for, text_answer}
use Rattle.call_definitions.specs.Call.{text_fault, expand_text, Shown, place_from, place_of, no_place, shown_for, shown_at, text_of}
use Rattle.call_definitions.specs.Results.{Gives, Shows, Tells}
use Rattle.demands.specs.Conditions.{Given, applies, fault_conditions, text_conditions, call_conditions, table_conditions, occurs_at, words_conditions}
use Rattle.demands.specs.One.{TableAnswered, TextAnswered, PartAnswered}
use Rattle.demands.proofs.Given.{given_by, given_by_lem, Refusals, given-join, none-applies}
use Rattle.demands.proofs.TextAnswers.{text-given, text-refusals}

-- ---- the table's call

module _ (zones : ZoneTable) (s : List ℕ) (from to : ℤ) (buffer : List ℕ) where
  calls : ℕ
  calls = given_by (call_conditions zones (event_of s) from to buffer)

  table-given : given_by (table_conditions zones s from to buffer) ≡ (if eqb (text_fault s) 0 then calls else text_fault s)
  unfolding table_conditions calls
  table-given =
      given-join (text_conditions s) (call_conditions zones (event_of s) from to buffer) (text-refusals s)
      ∙ ap (λ (n : ℕ). if eqb n 0 then given_by (call_conditions zones (event_of s) from to buffer) else n) (text-given s)

  -- an accepted event has the first of 10 to 13
  accepted-answer : expanded zones (event_of s) from to buffer ≡ outcome_by calls (table_of zones (event_of s) from to) buffer
  unfolding expanded answer_for calls call_conditions given_by
  accepted-answer = refl

  outcome-answer : (answer : ℕ) (table : List ℕ) → (outcome_by answer table buffer).answer ≡ answer
  unfolding outcome_by
  outcome-answer answer table = by (eqb answer 0) (λ e. rw e (sym (eqb-true answer 0 e))) (λ e. rw e)

  table-answer : (expand_text zones s from to buffer).answer ≡ given_by (table_conditions zones s from to buffer)
  unfolding expand_text
  table-answer =
      by (eqb (text_fault s) 0)
      (λ e. rw (table-given, e, accepted-answer) (outcome-answer calls (table_of zones (event_of s) from to)))
      (λ e. rw (table-given, e))

  -- a refusal leaves nothing
  nothing_left : (answer : ℕ) (table : List ℕ) → (answer ≡ 0 → ⊥)
      → ((outcome_by answer table buffer).length ≡ 0) × ((outcome_by answer table buffer).buffer ≡ buffer)
  unfolding outcome_by
  nothing_left answer table h = rw (ne_eqb answer 0 h) (refl, refl)

  table-refused : ((expand_text zones s from to buffer).answer ≡ 0 → ⊥)
      → ((expand_text zones s from to buffer).length ≡ 0) × ((expand_text zones s from to buffer).buffer ≡ buffer)
  unfolding expand_text
  table-refused h =
      by (eqb (text_fault s) 0)
      (λ e.
      rw (e, accepted-answer)
      (nothing_left calls (table_of zones (event_of s) from to) (λ z. h (rw (e, accepted-answer) (outcome-answer calls (table_of zones (event_of s) from to) ∙ z)))))
      (λ e. rw e (refl, refl))

  pub table-answered : (answer length : ℕ) (after : List ℕ) → Gives (expand_text zones s from to buffer) answer length after
      → TableAnswered zones s from to buffer answer length after
  table-answered answer length after g =
      record {
        one = subst (Given (table_conditions zones s from to buffer)) (sym (g.answer_is ∙ table-answer)) (given_by_lem (table_conditions zones s from to buffer));
        refused_length = λ h. g.length_is ∙ (table-refused (λ z. h (g.answer_is ∙ z))).0;
        refused_buffer = λ h. g.buffer_is ∙ (table-refused (λ z. h (g.answer_is ∙ z))).1;
      }

  -- where it is answered 0, no condition holds
  table-refusals : Refusals (table_conditions zones s from to buffer)
  unfolding table_conditions text_conditions fault_conditions call_conditions
  table-refusals = (refl, (refl, (refl, (refl, (refl, (refl, (refl, (refl, (refl, (refl, (refl, (refl, (refl, (refl, (refl, (refl, (refl, (refl, (refl, tt)))))))))))))))))))

  pub table_none : (answer length : ℕ) (after : List ℕ) → Gives (expand_text zones s from to buffer) answer length after → answer ≡ 0
      → (n : ℕ) → applies n (table_conditions zones s from to buffer) ≡ false
  table_none answer length after g done n = none-applies (table_conditions zones s from to buffer) table-refusals (sym table-answer ∙ sym g.answer_is ∙ done) n

-- ---- a text's call

-- no bytes, no part
pub no_part : (o : Shown) (s : List ℕ) (answer : ℕ) (part : List ℕ) → Tells o s answer part → o.length ≡ 0 → part ≡ []
no_part o s answer part g z = g.part_is ∙ ap (λ (n : ℕ). take n (drop o.start s)) z

module _ (s : List ℕ) (date : ℤ) where
  secret-or-no : (privacy : Privacy) (occurs : Bool) → text_answer_for privacy occurs ≡ (if not occurs || is_secret privacy then 14 else 0)
  unfolding text_answer_for
  secret-or-no privacy occurs = go (is_secret privacy) occurs
    where
      go : (secret occurs : Bool) → ◌≡◌ {A = ℕ} (if not secret && occurs then 0 else 14) (if not occurs || secret then 14 else 0)
      go true true = refl
      go true false = refl
      go false true = refl
      go false false = refl

  asked : (e : Event) (date : Option ℕ) → text_answer e date ≡ (if not (occurs_at e date) || is_secret e.privacy then 14 else 0)
  unfolding text_answer occurs_at
  asked e none = refl
  asked e (some x) = secret-or-no e.privacy (is_occurrence e x)

  words-given : given_by (words_conditions s date) ≡ (if eqb (text_fault s) 0 then text_answer (event_of s) (date_time_of date) else text_fault s)
  unfolding words_conditions given_by
  words-given =
      given-join (text_conditions s) _ (text-refusals s)
      ∙ ap (λ (n : ℕ). if eqb n 0 then (if not (occurs_at (event_of s) (date_time_of date)) || is_secret (event_of s).privacy then 14 else 0) else n) (text-given s)
      ∙ ap (λ (n : ℕ). if eqb (text_fault s) 0 then n else text_fault s) (sym (asked (event_of s) (date_time_of date)))

  -- where a place is shown, the answer is 0
  from-answer : (at : ℕ) (raw : List ℕ) → (place_from at raw).answer ≡ 0
  unfolding place_from
  from-answer at [] = refl
  from-answer at (b ∷ raw) = refl

  place-answer : (t : Option Text) → (place_of t).answer ≡ 0
  unfolding place_of
  place-answer none = refl
  place-answer (some t) = from-answer t.at t.raw

  -- what is shown has the answer, and a refusal no place
  record Said (answer : ℕ) (o : Shown) : Type 0 where
    answer_is : o.answer ≡ answer
    nowhere : (o.answer ≡ 0 → ⊥) → (o.start ≡ 0) × (o.length ≡ 0)

  said-for : (privacy : Privacy) (answer : ℕ) (place : Shown) → place.answer ≡ 0 → Said answer (shown_for privacy answer place)
  unfolding shown_for
  said-for privacy answer place z = go (eqb answer 0) (is_public privacy) refl
    where
      go : (t p : Bool) → eqb answer 0 ≡ t → Said answer (if t && p then place else no_place answer)
      go true true e = record { answer_is = z ∙ sym (eqb-true answer 0 e); nowhere = λ h. absurd (h z) }
      go true false e = record { answer_is = refl; nowhere = λ h. (refl, refl) }
      go false p e = record { answer_is = refl; nowhere = λ h. (refl, refl) }

  module _ (which : Details → Option Text) where
    said_at : (e : Event) (d : Option ℕ) → Said (text_answer e d) (shown_at which e d)
    unfolding shown_at
    said_at e none = unfold text_answer in (record { answer_is = refl; nowhere = λ h. (refl, refl) })
    said_at e (some x) = said-for e.privacy (text_answer e (some x)) (place_of (which (details_at e x))) (place-answer (which (details_at e x)))

    said : Said (given_by (words_conditions s date)) (text_of which s date)
    unfolding text_of
    said = by (eqb (text_fault s) 0) (λ e. rw (words-given, e) (said_at (event_of s) (date_time_of date))) (λ e. rw (words-given, e) (record { answer_is = refl; nowhere = λ h. (refl, refl) }))

    pub text-answered : (answer start size : ℕ) → Shows (text_of which s date) answer start size → TextAnswered s date answer start size
    text-answered answer start size g =
        record {
          one = subst (Given (words_conditions s date)) (sym (g.answer_is ∙ said.answer_is)) (given_by_lem (words_conditions s date));
          refused_text =
              λ h.
              let no = said.nowhere (λ z. h (g.answer_is ∙ z)) in
              (g.start_is ∙ no.0, g.length_is ∙ no.1);
        }

    -- the part is that of the place
    pub part-answered : (answer : ℕ) (part : List ℕ) → Tells (text_of which s date) s answer part → PartAnswered s date answer part
    part-answered answer part g =
        let o = text_of which s date in
        let t = text-answered answer o.start o.length (record { answer_is = g.answer_is; start_is = refl; length_is = refl }) in
        record { one = t.one; refused_part = λ h. no_part o s answer part g (t.refused_text h).1 }
