-- Demand 2, about the definitions: "When an accepted event that is not secret is answered 0, the recurrence ids on the sheet strictly increase, and a
-- date-time of the window is there exactly when no override excludes it and either an override names it, or it is the start or a rule gives it, and
-- no excluded rule does." The buffer has their records and the trailer.
use Prim.Native.Nat.{ℕ, ◌+◌, ◌*◌}
use mathlib.Core.Bool.{Bool, true, false}
use mathlib.Core.List.{List}
use mathlib.Core.Logic.{◌↔◌}
use mathlib.Core.Path.{◌≡◌, refl, sym, ap, ◌∙◌}
use lib.Dec.{eqb}
use lib.IntN.{ℤ}
use lib.ListN.{length, length-map}
use lib.Seq.{sets}
use borrow.Author.Tests.{eqb-true}
use Rattle.signed.proofs.Parts.{true-false}
use Rattle.recurrence.specs.Inner.Order.{StrictlyIncreases, among}
use Rattle.recurrence.specs.Inner.Within.{OccursWithin}
use Rattle.recurrence.proofs.Exactly as recurrence
use Rattle.keywords.specs.declared.Privacy.{Privacy}
use Rattle.keywords.specs.declared.Privacy.TheVariants.{Public, Private, Secret}
use Rattle.event.specs.Types.{Event}
use Rattle.sheet.specs.Writing.{sheet_of}
use Rattle.sheet.proofs.WrittenLaws.{sheet-length}
use Rattle.call_definitions.specs.Window.{since1600}
use Rattle.call_definitions.specs.Occurrence.{dates_of, occurrences}
use Rattle.call_definitions.specs.Utc.{ZoneTable}
use Rattle.call_definitions.specs.Bytes.{rows_for, listed, rows_in, written_version, table_of}
use Rattle.call_definitions.specs.Answer.{is_secret, Outcome, answer_for, outcome_by, expanded}

-- What a call that is answered 0 leaves.
pub record Listed (zones : ZoneTable) (e : Event) (from to : ℤ) (buffer : List ℕ) (ids : List ℕ) : Type 0 where
  -- "the recurrence ids on the sheet strictly increase"
  pub increase : StrictlyIncreases ids
  -- "and a date-time of the window is there exactly when no override excludes it and either an override names it, or it is the start or a rule gives
  -- it, and no excluded rule does"
  pub exactly : (x : ℕ) → (among x ids ≡ true) ↔ OccursWithin (dates_of e) (since1600 from) (since1600 to) x
  -- the table is their records in order, and the trailer with their number
  pub bytes : (expanded zones e from to buffer).buffer ≡ sets buffer 0 (sheet_of written_version (rows_for zones e ids))
  pub size : (expanded zones e from to buffer).length ≡ 28 * length ids + 12

pub rows-count : (zones : ZoneTable) (e : Event) (xs : List ℕ) → length (rows_for zones e xs) ≡ length xs
unfolding rows_for
rows-count zones e xs = length-map xs _

pub table-length : (zones : ZoneTable) (e : Event) (xs : List ℕ) → length (sheet_of written_version (rows_for zones e xs)) ≡ 28 * length xs + 12
table-length zones e xs = sheet-length written_version (rows_for zones e xs) ∙ ap (λ (n : ℕ). 28 * n + 12) (rows-count zones e xs)

shown : (e : Event) (privacy : Privacy) → is_secret privacy ≡ false → (from to : ℕ) → listed e privacy from to ≡ occurrences e from to
unfolding listed
shown e Public h from to = refl
shown e Private h from to = refl
shown e Secret h from to = true-false h

-- a refusal keeps its number, and an answer of 0 is the table written
refused : (answer : ℕ) (table buffer : List ℕ) → eqb answer 0 ≡ false → (outcome_by answer table buffer).answer ≡ answer
unfolding outcome_by
refused answer table buffer e = rw e

written : (answer : ℕ) (table buffer : List ℕ) → answer ≡ 0
    → outcome_by answer table buffer ≡ record { answer = 0; length = length table; buffer = sets buffer 0 table }
unfolding outcome_by
written answer table buffer e = rw e

answered : (answer : ℕ) (table buffer : List ℕ) → (outcome_by answer table buffer).answer ≡ 0
    → outcome_by answer table buffer ≡ record { answer = 0; length = length table; buffer = sets buffer 0 table }
answered answer table buffer h = by (eqb answer 0) refl
  where
    by : (t : Bool) → eqb answer 0 ≡ t → outcome_by answer table buffer ≡ record { answer = 0; length = length table; buffer = sets buffer 0 table }
    by true e = written answer table buffer (eqb-true answer 0 e)
    by false e = written answer table buffer (sym (refused answer table buffer e) ∙ h)

module _ (zones : ZoneTable) (e : Event) (from to : ℤ) (buffer : List ℕ) where
  ids : List ℕ
  ids = occurrences e (since1600 from) (since1600 to)

  table_is : is_secret e.privacy ≡ false → table_of zones e from to ≡ sheet_of written_version (rows_for zones e ids)
  unfolding table_of rows_in ids
  table_is h = ap (λ (xs : List ℕ). sheet_of written_version (rows_for zones e xs)) (shown e e.privacy h (since1600 from) (since1600 to))

  -- an answer of 0 is the table written, whatever the event
  pub table-written : (expanded zones e from to buffer).answer ≡ 0
      → expanded zones e from to buffer ≡ record { answer = 0; length = length (table_of zones e from to); buffer = sets buffer 0 (table_of zones e from to) }
  unfolding expanded
  table-written h = answered (answer_for zones from to e.privacy e.zone (table_of zones e from to) buffer) (table_of zones e from to) buffer h

  pub demand-two : is_secret e.privacy ≡ false → (expanded zones e from to buffer).answer ≡ 0
      → Listed zones e from to buffer (occurrences e (since1600 from) (since1600 to))
  unfolding occurrences ids
  demand-two shown_to h =
      let done = table-written h in
      let said = recurrence.demand-two (dates_of e) (since1600 from) (since1600 to) in
      record {
        increase = said.0;
        exactly = said.1;
        bytes = ap (λ (o : Outcome). o.buffer) done ∙ ap (λ (l : List ℕ). sets buffer 0 l) (table_is shown_to);
        size = ap (λ (o : Outcome). o.length) done ∙ (ap length (table_is shown_to) ∙ table-length zones e ids);
      }
