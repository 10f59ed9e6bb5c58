-- The answers of a call, one after the other: a refusal is the whole outcome, and what is not refused is the table, as far as it fits.
use Prim.Native.Nat.{ℕ}
use mathlib.Core.Bool.{true, false}
use mathlib.Core.List.{List, []}
use mathlib.Core.Path.{◌≡◌, refl, sym, ap, subst, ◌∙◌}
use lib.IntN.{ℤ}
use borrow.Author.Tests.{ne_eqb}
use Rattle.signed.proofs.Parts.{false-true, true-false}
use Rattle.sheet.specs.Writing.{sheet_of}
use Rattle.keywords.specs.declared.Privacy.{Privacy}
use Rattle.keywords.specs.declared.Privacy.TheVariants.{Public, Private, Secret}
use Rattle.event.specs.Types.{Event}
use Rattle.event.specs.Event.{event_of}
use Rattle.call_definitions.specs.Window.{since1600}
use Rattle.call_definitions.specs.Utc.{ZoneTable}
use Rattle.call_definitions.specs.Bytes.{rows_for, listed, rows_in, written_version, table_of}
use Rattle.call_definitions.specs.Answer.{is_secret, Outcome, outcome_by, expanded}
use Rattle.call_definitions.specs.Call.{text_fault, expand_text}
use Rattle.call_definitions.specs.Results.{Gives}
use Rattle.opening.specs.Inner.Refusal.{refusal_for}
use Rattle.opening.proofs.RefusalLaws.{answer-left, answer-refused}
use Rattle.writer.specs.Inner.Table.{fitted}
use Rattle.expansion.specs.Inner.Visible.{table_for}

-- ---- 1 to 9

module _ (zones : ZoneTable) (s : List ℕ) (from to : ℤ) (buffer : List ℕ) where
  pub text-refused : (f : ℕ) → (f ≡ text_fault s) × (f ≡ 0 → ⊥) → Gives (expand_text zones s from to buffer) f 0 buffer
  unfolding expand_text
  text-refused f e = rw (← e.0, ne_eqb f 0 e.1) (record { answer_is = refl; length_is = refl; buffer_is = refl })

  pub text-accepted : text_fault s ≡ 0 → (r n : ℕ) (after : List ℕ) → Gives (expanded zones (event_of s) from to buffer) r n after
      → Gives (expand_text zones s from to buffer) r n after
  unfolding expand_text
  text-accepted z r n after g = rw z g

-- ---- 10 to 13

module _ (zones : ZoneTable) (e : Event) (from to : ℤ) (buffer : List ℕ) (r : ℕ) (is : r ≡ refusal_for zones from to e.privacy e.zone) where
  pub call-refused : (r ≡ 0 → ⊥) → Gives (expanded zones e from to buffer) r 0 buffer
  unfolding expanded outcome_by
  call-refused h =
      let refused = answer-refused zones from to e.privacy e.zone (λ z. h (is ∙ z)) (table_of zones e from to) buffer in
      rw (refused, ← is, ne_eqb r 0 h) (record { answer_is = refl; length_is = refl; buffer_is = refl })

  call_fits : r ≡ 0 → expanded zones e from to buffer ≡ fitted (table_of zones e from to) buffer
  unfolding expanded fitted
  call_fits z =
      ap (λ (answer : ℕ). outcome_by answer (table_of zones e from to) buffer)
      (answer-left zones from to e.privacy e.zone (sym is ∙ z) (table_of zones e from to) buffer)

  gives-table : r ≡ 0 → (table : List ℕ) → table_of zones e from to ≡ table → (n k : ℕ) (after : List ℕ) → Gives (fitted table buffer) n k after
      → Gives (expanded zones e from to buffer) n k after
  gives-table z table same n k after g =
      subst (λ (o : Outcome). Gives o n k after) (sym (call_fits z ∙ ap (λ (t : List ℕ). fitted t buffer) same)) g

  table_with : Privacy → List ℕ
  table_with p = sheet_of written_version (rows_for zones e (listed e p (since1600 from) (since1600 to)))

  secret-table : (p : Privacy) → is_secret p ≡ true → table_with p ≡ sheet_of written_version []
  unfolding table_with listed rows_for
  secret-table Public h = false-true h
  secret-table Private h = false-true h
  secret-table Secret h = refl

  visible-table : (p : Privacy) → is_secret p ≡ false → table_with p ≡ table_for zones e (since1600 from) (since1600 to)
  unfolding table_with listed table_for
  visible-table Public h = refl
  visible-table Private h = refl
  visible-table Secret h = true-false h

  pub call-secret : r ≡ 0 → is_secret e.privacy ≡ true → (n k : ℕ) (after : List ℕ) → Gives (fitted (sheet_of written_version []) buffer) n k after
      → Gives (expanded zones e from to buffer) n k after
  unfolding table_of rows_in table_with
  call-secret z h n k after g = gives-table z (sheet_of written_version []) (secret-table e.privacy h) n k after g

  pub call-visible : r ≡ 0 → is_secret e.privacy ≡ false → (n k : ℕ) (after : List ℕ)
      → Gives (fitted (table_for zones e (since1600 from) (since1600 to)) buffer) n k after → Gives (expanded zones e from to buffer) n k after
  unfolding table_of rows_in table_with
  call-visible z h n k after g = gives-table z (table_for zones e (since1600 from) (since1600 to)) (visible-table e.privacy h) n k after g
