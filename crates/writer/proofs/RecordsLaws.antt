-- The loop that writes the records of a chunk: what is left to write here makes the whole.
use Prim.Native.Nat.{ℕ, suc, ◌+◌, ◌*◌, ◌<◌, ◌≤◌}
use mathlib.Core.Bool.{Bool}
use mathlib.Core.List.{List, [], ◌++◌, map}
use mathlib.Core.Path.{◌≡◌, sym, ap, ◌∙◌}
use native.Mathlib.Numerals.{add-one}
use native.Mathlib.Omega.{arith}
use lib.IntN.{ℤ}
use lib.ListN.{length, get_or, drop, drop_of_length-le}
use lib.Seq.{sets, length-sets, drop-cons}
use Rattle.sheet.specs.Records.{Row}
use Rattle.sheet.specs.Writing.{row_bytes, rows_bytes}
use Rattle.sheet.proofs.WrittenLaws.{row_length}
use Rattle.event.specs.Types.{Details}
use Rattle.record.specs.declared.Times.{Times}
use Rattle.record.specs.Inner.Utc.{times_of}
use Rattle.record.specs.Inner.Occurrences.{occurrence_row}
use Rattle.record.proofs.RowLaws.{sets-append}
use Rattle.writer.specs.Inner.Details.{row_by}
use Rattle.writer.specs.Inner.Writes.{WroteChunk}

-- the record with the times that were found
pub row-found : (fl : Bool) (b : ℤ) (ts ns : List ℤ) (details : ℕ → Details) (x : ℕ) (t : Times) → t ≡ times_of fl (details x)
    → row_bytes (occurrence_row b ts ns x t) ≡ row_bytes (row_by fl b ts ns details x)
unfolding row_by
row-found fl b ts ns details x t is = ap (λ (u : Times). row_bytes (occurrence_row b ts ns x u)) is

-- Before the i-th of the ids, with the buffer `buf` and the place `place`.
pub record ChunkAt (row : ℕ → Row) (chunk before : List ℕ) (at i place : ℕ) (buf : List ℕ) : Type 0 where
  pub within : i ≤ length chunk
  pub along : place ≡ at + 28 * i
  pub same : length buf ≡ length before
  pub rest : sets buf place (rows_bytes (map row (drop i chunk))) ≡ sets before at (rows_bytes (map row chunk))

module _ (row : ℕ → Row) (chunk before : List ℕ) (at : ℕ) where
  module _ (i place : ℕ) (buf : List ℕ) (c : ChunkAt row chunk before at i place buf) where
    pub chunk-one : i < length chunk → (after : List ℕ) → after ≡ sets buf place (row_bytes (row (get_or chunk i 0)))
        → ChunkAt row chunk before at (i + 1) (place + 28) after
    unfolding rows_bytes
    chunk-one more after is =
        let here = row_bytes (row (get_or chunk i 0)) in
        let later = rows_bytes (map row (drop (suc i) chunk)) in
        let list : rows_bytes (map row (drop i chunk)) ≡ here ++ later = ap (λ (l : List ℕ). rows_bytes (map row l)) (drop-cons chunk i 0 more) in
        rw (add-one i)
        (record {
          within = more;
          along = omega (arith, c.along);
          same = ap length is ∙ (length-sets buf place here ∙ c.same);
          rest =
              ap (λ (b : List ℕ). sets b (place + 28) later) is
              ∙ (ap (λ (n : ℕ). sets (sets buf place here) (place + n) later) (sym (row_length (row (get_or chunk i 0))))
              ∙ (sym (sets-append here later buf place) ∙ (ap (sets buf place) (sym list) ∙ c.rest)));
        })

    pub chunk-ends : length chunk ≤ i → WroteChunk row chunk at before buf place
    unfolding rows_bytes
    chunk-ends over =
        let nothing : rows_bytes (map row (drop i chunk)) ≡ [] = ap (λ (l : List ℕ). rows_bytes (map row l)) (drop_of_length-le chunk over) in
        record { bytes = sym (ap (sets buf place) nothing) ∙ c.rest; place = omega (arith, c.along, c.within) }
