-- 02, request 3: "Every sheet the library writes is read back to the records that made it": of every call for the sheet that keeps its contract,
-- `Gives (expand_text ..)`, and is answered 0.
use Prim.Native.Nat.{ℕ, ◌+◌}
use mathlib.Core.Bool.{true, false}
use mathlib.Core.List.{List}
use mathlib.Core.Path.{◌≡◌, refl, sym, ap, ap₂, ◌∙◌}
use native.Mathlib.Omega.{arith}
use lib.Dec.{eqb}
use lib.IntN.{ℤ}
use lib.ListN.{length, take, drop}
use lib.Seq.{sets, sets-eq, take_at}
use borrow.Author.Tests.{eqb-true}
use Rattle.zone.specs.Table.{valid_table}
use Rattle.rule.proofs.Bools.{by}
use Rattle.sheet.specs.Records.{Row}
use Rattle.sheet.specs.Reading.{count_of}
use Rattle.demands.proofs.Rows.{past, rows-writable}
use Rattle.sheet.proofs.WrittenRead.{Writable, version-back, count-back, rows_back, written-accepted}
use Rattle.keywords.specs.declared.Privacy.{Privacy}
use Rattle.keywords.specs.declared.Privacy.TheVariants.{Secret}
use Rattle.event.specs.Event.{event_of}
use Rattle.call_definitions.specs.Window.{since1600, valid_window}
use Rattle.call_definitions.specs.Utc.{ZoneTable}
use Rattle.call_definitions.specs.Bytes.{rows_for, listed, rows_in, written_version, table_of}
use Rattle.call_definitions.specs.Answer.{Outcome}
use Rattle.call_definitions.specs.Call.{text_fault, expand_text}
use Rattle.call_definitions.specs.Results.{Gives}
use Rattle.call_definitions.proofs.DemandTwo.{table-written}
use Rattle.demands.specs.Conditions.{applies, table_conditions}
use Rattle.demands.specs.Reading.{ReadBack}
use Rattle.demands.proofs.DemandOne.{table_none}
use Rattle.demands.proofs.DemandTwo.{table-valid, window-valid, room, accepted-outcome}

-- ---- the sheet of an accepted event in a window

module _ (zones : ZoneTable) (s : List ℕ) (from to : ℤ) (accepted : text_fault s ≡ 0)
    (table : valid_table zones.initial zones.instants zones.offsets ≡ true) (window : valid_window from to ≡ true) where
  abbrev d : Row
  d = past zones s from to accepted table window

  abbrev rows : List Row
  rows = rows_in zones (event_of s) from to

  writable : Writable written_version d rows
  writable = rows-writable zones s from to accepted table window

  pub table-read : ReadBack zones (event_of s) from to (table_of zones (event_of s) from to)
  unfolding table_of
  table-read =
      record {
        accepted = written-accepted written_version d rows writable;
        version = version-back written_version d rows writable;
        records = rows_back written_version d rows writable;
        number = count-back written_version d rows writable;
      }

-- ---- the call for the sheet, answered 0

module _ (zones : ZoneTable) (s : List ℕ) (from to : ℤ) (buffer : List ℕ) (answer size : ℕ) (after : List ℕ)
    (g : Gives (expand_text zones s from to buffer) answer size after) (done : answer ≡ 0) where
  abbrev sheet : List ℕ
  sheet = table_of zones (event_of s) from to

  no-fault : text_fault s ≡ 0
  unfolding expand_text
  no-fault =
      by (eqb (text_fault s) 0)
      (λ t. eqb-true (text_fault s) 0 t)
      (λ t.
      let is : answer ≡ text_fault s = rw t at g.answer_is in
      sym is ∙ done)

  none : (n : ℕ) → applies n (table_conditions zones s from to buffer) ≡ false
  none = table_none zones s from to buffer answer size after g done

  outcome : expand_text zones s from to buffer ≡ record { answer = 0; length = length sheet; buffer = sets buffer 0 sheet }
  outcome =
      let is = accepted-outcome zones s from to buffer no-fault in
      is ∙ table-written zones (event_of s) from to buffer (sym (g.answer_is ∙ ap (λ (u : Outcome). u.answer) is) ∙ done)

  -- the first bytes of the buffer are the sheet
  front : take (length sheet) (sets buffer 0 sheet) ≡ sheet
  front =
      ap (take (length sheet)) (sets-eq sheet buffer 0 (omega (arith, room zones s from to buffer (none 13))))
      ∙ take_at sheet (drop (0 + length sheet) buffer) (length sheet) refl

  sheet-is : take size after ≡ sheet
  sheet-is =
      ap₂ take (g.length_is ∙ ap (λ (u : Outcome). u.length) outcome) (g.buffer_is ∙ ap (λ (u : Outcome). u.buffer) outcome) ∙ front

  pub written_read : ReadBack zones (event_of s) from to (take size after)
  written_read =
      rw sheet-is
      (table-read zones s from to no-fault (table-valid zones s from to buffer (none 10)) (window-valid zones s from to buffer (none 11)))

  -- "A secret event has no records, only the trailer."
  pub secret-count : (event_of s).privacy ≡ Secret → count_of (take size after) ≡ 0
  unfolding rows_in rows_for listed
  secret-count p =
      written_read.number ∙ ap (λ (q : Privacy). length (rows_for zones (event_of s) (listed (event_of s) q (since1600 from) (since1600 to)))) p
