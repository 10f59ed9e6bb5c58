-- The table of a window: its length, its bytes as they are written one part after the other, and what a call leaves of it.
use Prim.Native.Nat.{ℕ, ◌+◌, ◌-◌, ◌*◌, ◌/◌, ◌<◌, ◌≤◌, ◌^◌}
use mathlib.Core.Bool.{Bool}
use mathlib.Core.List.{List, map}
use mathlib.Core.Path.{◌≡◌, refl, sym, ap, ◌∙◌}
use native.Mathlib.Omega.{arith}
use lib.ListN.{length, length-map}
use lib.Seq.{sets, length-sets}
use borrow.Author.Tests.{lt-ltb, le-ltb}
use Rattle.rule.proofs.Counting.{count_most}
use Rattle.sheet.specs.Records.{Row}
use Rattle.sheet.specs.Writing.{rows_bytes, trailer_bytes, sheet_of}
use Rattle.sheet.proofs.WrittenLaws.{rows-length, sheet-length}
use Rattle.call_definitions.specs.Bytes.{written_version}
use Rattle.call_definitions.specs.Answer.{outcome_by}
use Rattle.call_definitions.specs.Results.{Gives}
use Rattle.record.proofs.RowLaws.{sets-append}
use Rattle.window.specs.Inner.Lists.{list_in}
use Rattle.window.specs.Inner.Handed.{Span}
use Rattle.window.proofs.ListLaws.{list_length}
use Rattle.writer.specs.Inner.Table.{table_by, fitted}
use Rattle.writer.specs.Inner.Writes.{WroteChunk}

-- ---- what a call leaves

module _ (table buffer : List ℕ) where
  pub too_long : length buffer < length table → Gives (fitted table buffer) 13 0 buffer
  unfolding fitted outcome_by
  too_long h = rw (lt-ltb (length buffer) (length table) h) (record { answer_is = refl; length_is = refl; buffer_is = refl })

  pub fits : length table ≤ length buffer → (n : ℕ) → n ≡ length table → (after : List ℕ) → after ≡ sets buffer 0 table
      → Gives (fitted table buffer) 0 n after
  unfolding fitted outcome_by
  fits h n long after is = rw (le-ltb (length buffer) (length table) h) (record { answer_is = refl; length_is = long; buffer_is = is })

-- ---- the ids of a window are few

pub ids-few : (p : ℕ → Bool) (from to : ℕ) → Span from to → 28 * length (list_in p from (to - from)) + 12 < 2 ^ 63
ids-few p from to s = omega (arith, list_length p from (to - from), count_most p from (to - from), s.high)

-- ---- the records, then the trailer

module _ (row : ℕ → Row) (p : ℕ → Bool) (from to : ℕ) where
  rows : List Row
  rows = map row (list_in p from (to - from))

  count : length rows ≡ length (list_in p from (to - from))
  unfolding rows
  count = length-map (list_in p from (to - from)) row

  long : length (rows_bytes rows) ≡ 28 * length (list_in p from (to - from))
  long = rows-length rows ∙ ap (λ (n : ℕ). 28 * n) count

  pub table-long : length (table_by row p from to) ≡ 28 * length (list_in p from (to - from)) + 12
  unfolding table_by rows
  table-long = sheet-length written_version rows ∙ ap (λ (n : ℕ). 28 * n + 12) count

  module _ (before : List ℕ) where
    pub table-refused : length before < 28 * length (list_in p from (to - from)) + 12 → Gives (fitted (table_by row p from to) before) 13 0 before
    table-refused h = too_long (table_by row p from to) before (omega (arith, table-long))

    module _ (buf : List ℕ) (place : ℕ) (w : WroteChunk row (list_in p from (to - from)) 0 before buf place) where
      -- what the trailer asks for
      pub trailer-fits : Span from to → 28 * length (list_in p from (to - from)) + 12 ≤ length before → (place + 12 ≤ length buf) × (28 * (place / 28) < 2 ^ 64)
      unfolding rows
      trailer-fits s enough =
          let same : length buf ≡ length before = ap length w.bytes ∙ length-sets before 0 (rows_bytes rows) in
          (omega (arith, w.place), omega (arith, w.place, ids-few p from to s))

      joined : (after : List ℕ) → after ≡ sets buf place (trailer_bytes written_version (length rows)) → after ≡ sets before 0 (table_by row p from to)
      unfolding table_by sheet_of rows
      joined after last =
          let trailer = trailer_bytes written_version (length rows) in
          last
          ∙ (ap (λ (l : List ℕ). sets l place trailer) w.bytes
          ∙ (ap (λ (k : ℕ). sets (sets before 0 (rows_bytes rows)) k trailer) (w.place ∙ sym (ap (λ (k : ℕ). 0 + k) long)) ∙ sym (sets-append (rows_bytes rows) trailer before 0)))

      pub table-given : 28 * length (list_in p from (to - from)) + 12 ≤ length before → (after : List ℕ)
          → after ≡ sets buf place (trailer_bytes written_version (place / 28)) → Gives (fitted (table_by row p from to) before) 0 (place + 12) after
      table-given enough after last =
          let many : place / 28 ≡ length rows = omega (arith, w.place, count) in
          fits (table_by row p from to) before (omega (arith, table-long)) (place + 12) (omega (arith, w.place, table-long)) after
          (joined after (last ∙ ap (λ (k : ℕ). sets buf place (trailer_bytes written_version k)) many))
