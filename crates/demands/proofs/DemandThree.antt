-- Demand 3 of every two calls that keep their contracts.
use Prim.Native.Nat.{ℕ, ◌+◌, ◌*◌, ◌≤◌}
use mathlib.Core.List.{List, []}
use mathlib.Core.Option.{Option}
use mathlib.Core.Path.{◌≡◌, sym, ap, ◌∙◌}
use native.Mathlib.Omega.{arith}
use lib.IntN.{ℤ}
use lib.ListN.{length}
use lib.Seq.{sets}
use Rattle.sheet.specs.Writing.{sheet_of}
use Rattle.sheet.proofs.WrittenLaws.{sheet-length}
use Rattle.keywords.specs.declared.Privacy.TheVariants.{Private, Secret}
use Rattle.event.specs.Types.{Text, Details}
use Rattle.event.specs.Event.{event_of}
use Rattle.call_definitions.specs.Agree.{Agree, Accepted}
use Rattle.call_definitions.specs.Utc.{ZoneTable}
use Rattle.call_definitions.specs.Bytes.{rows_for, written_version}
use Rattle.call_definitions.specs.Answer.{Outcome, is_secret}
use Rattle.call_definitions.specs.Call.{Shown, expand_text, no_place, text_of}
use Rattle.call_definitions.specs.Results.{Gives, Shows, Tells}
use Rattle.call_definitions.proofs.DemandTwo.{table-written}
use Rattle.call_definitions.proofs.DemandThree.{accepted-table, secret-is, private-text, secret-text, private-tables, private-texts, secret-tables}
use Rattle.demands.specs.Sheet.{HasSheet}
use Rattle.demands.specs.Three.{SameTable, PrivateTable, SameText, SamePart}
use Rattle.demands.proofs.DemandOne.{table-answered, table_none, no_part}
use Rattle.demands.proofs.SheetLaws.{has-sheet}
use Rattle.demands.proofs.DemandTwo.{room, table-listed}

-- ---- the sheet

same-table : (o p : Outcome) → o ≡ p → (answer answer' size size' : ℕ) (after after' : List ℕ) → Gives o answer size after → Gives p answer' size' after'
    → SameTable answer answer' size size' after after'
same-table o p e answer answer' size size' after after' g h =
    record {
      answers = g.answer_is ∙ ap (λ (o : Outcome). o.answer) e ∙ sym h.answer_is;
      sizes = g.length_is ∙ ap (λ (o : Outcome). o.length) e ∙ sym h.length_is;
      bytes = g.buffer_is ∙ ap (λ (o : Outcome). o.buffer) e ∙ sym h.buffer_is;
    }

module _ (zones : ZoneTable) (from to : ℤ) (buffer : List ℕ) (answer answer' size size' : ℕ) (after after' : List ℕ) where
  pub private-same : (s t : List ℕ) → Accepted Private s → Accepted Private t → Agree (event_of s) (event_of t)
      → Gives (expand_text zones s from to buffer) answer size after → Gives (expand_text zones t from to buffer) answer' size' after'
      → SameTable answer answer' size size' after after' × PrivateTable zones s from to buffer answer size after
  private-same s t h k agree g g' = (
    same-table _ _ (private-tables s t h k agree zones from to buffer) answer answer' size size' after after' g g',
    record {
      answered = table-answered zones s from to buffer answer size after g;
      listed = table-listed zones s from to buffer h.accepted (ap is_secret h.setting) answer size after g;
    },
  )

  -- "a sheet answered 0 has no records"
  no-records : (s : List ℕ) → Accepted Secret s → Gives (expand_text zones s from to buffer) answer size after → answer ≡ 0 → HasSheet 0 size buffer after
  unfolding rows_for
  no-records s h g done =
      let is = accepted-table Secret s h zones from to buffer in
      let o = sym (g.answer_is ∙ ap (λ (u : Outcome). u.answer) is) ∙ done in
      let written = is ∙ table-written zones (event_of s) from to buffer o in
      let alone = secret-is zones (event_of s) h.setting from to in
      let bytes : after ≡ sets buffer 0 (sheet_of written_version (rows_for zones (event_of s) [])) = g.buffer_is ∙ ap (λ (u : Outcome). u.buffer) written ∙ ap (sets buffer 0) alone in
      let sized : size ≡ 12 = g.length_is ∙ ap (λ (u : Outcome). u.length) written ∙ ap length alone ∙ sheet-length written_version [] in
      let none = table_none zones s from to buffer answer size after g done 13 in
      let fits : 28 * 0 + 12 ≤ length buffer = omega (arith, room zones s from to buffer none, ap length alone, sheet-length written_version []) in
      has-sheet zones (event_of s) [] buffer after bytes fits (omega arith) size sized

  pub secret-same : (s t : List ℕ) → Accepted Secret s → Accepted Secret t
      → Gives (expand_text zones s from to buffer) answer size after → Gives (expand_text zones t from to buffer) answer' size' after'
      → SameTable answer answer' size size' after after' × (answer ≡ 0 → HasSheet 0 size buffer after)
  secret-same s t h k g g' = (
    same-table _ _ (secret-tables s t h k zones from to buffer) answer answer' size size' after after' g g',
    no-records s h g,
  )

-- ---- the texts

module _ (which : Details → Option Text) where
  -- of a private event no words come out, whatever date
  pub silent : (s : List ℕ) → Accepted Private s → (date : ℤ) (answer start size : ℕ) → Shows (text_of which s date) answer start size
      → (start ≡ 0) × (size ≡ 0)
  silent s h date answer start size g =
      let is = private-text s h which date in
      (g.start_is ∙ ap (λ (o : Shown). o.start) is, g.length_is ∙ ap (λ (o : Shown). o.length) is)

  pub silent-part : (s : List ℕ) → Accepted Private s → (date : ℤ) (answer : ℕ) (part : List ℕ) → Tells (text_of which s date) s answer part → part ≡ []
  silent-part s h date answer part g =
      no_part (text_of which s date) s answer part g (ap (λ (o : Shown). o.length) (private-text s h which date))

  module _ (s t : List ℕ) (h : Accepted Private s) (k : Accepted Private t) (agree : Agree (event_of s) (event_of t)) (date : ℤ) (answer answer' : ℕ) where
    same-answers : answer ≡ (text_of which s date).answer → answer' ≡ (text_of which t date).answer → answer ≡ answer'
    same-answers e e' = e ∙ ap (λ (o : Shown). o.answer) (private-texts s t h k agree which date) ∙ sym e'

    pub private-words : (start start' size size' : ℕ) → Shows (text_of which s date) answer start size → Shows (text_of which t date) answer' start' size'
        → SameText answer answer' start start' size size'
    private-words start start' size size' g g' =
        let no = silent s h date answer start size g in
        let no' = silent t k date answer' start' size' g' in
        record { answers = same-answers g.answer_is g'.answer_is; no_place = (no.0, no'.0); no_words = (no.1, no'.1) }

    pub private-parts : (part part' : List ℕ) → Tells (text_of which s date) s answer part → Tells (text_of which t date) t answer' part'
        → SamePart answer answer' part part'
    private-parts part part' g g' =
        record {
          answers = same-answers g.answer_is g'.answer_is;
          no_words = (silent-part s h date answer part g, silent-part t k date answer' part' g');
        }

  -- "Every request for words about either is answered 14."
  pub fourteen : (s : List ℕ) → Accepted Secret s → (date : ℤ) (answer : ℕ) → answer ≡ (text_of which s date).answer → answer ≡ 14
  fourteen s h date answer e = e ∙ ap (λ (o : Shown). o.answer) (secret-text s h which date)
