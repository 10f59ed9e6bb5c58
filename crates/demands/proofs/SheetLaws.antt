-- A sheet in a buffer, read back: its records, its trailer, and the bytes after it.
use Prim.Native.Nat.{ℕ, ◌+◌, ◌*◌, ◌<◌, ◌≤◌}
use mathlib.Core.List.{List, ◌++◌, append_assoc}
use mathlib.Core.Path.{◌≡◌, ap, ◌∙◌}
use native.Mathlib.Omega.{arith}
use lib.ListN.{length, drop, get_or}
use lib.Seq.{sets, sets-eq, length-sets, drop_at}
use Rattle.event.specs.Types.{Event}
use Rattle.call_definitions.specs.Utc.{ZoneTable}
use Rattle.call_definitions.specs.Bytes.{rows_for, written_version}
use Rattle.call_definitions.proofs.DemandTwo.{rows-count, table-length}
use Rattle.sheet.specs.Records.{Row, zeros_at, row_at}
use Rattle.sheet.specs.Writing.{rows_bytes, trailer_bytes, sheet_of}
use Rattle.sheet.proofs.WrittenLaws.{rows-length, size-read, version-read, count-read, distance_read}
use Rattle.sheet.proofs.WrittenRead as sheet
use Rattle.demands.specs.Sheet.{HasSheet}

module _ (zones : ZoneTable) (e : Event) (xs before after : List ℕ)
    (is : after ≡ sets before 0 (sheet_of written_version (rows_for zones e xs))) (fits : 28 * length xs + 12 ≤ length before) where
  abbrev rows : List Row
  rows = rows_for zones e xs

  abbrev rest : List ℕ
  rest = drop (28 * length xs + 12) before

  written : after ≡ sheet_of written_version rows ++ rest
  written =
      let long : 0 + length (sheet_of written_version rows) ≡ 28 * length xs + 12 = omega (arith, table-length zones e xs) in
      is
      ∙ sets-eq (sheet_of written_version rows) before 0 (omega arith)
      ∙ ap (λ (n : ℕ). sheet_of written_version rows ++ drop n before) long

  -- ---- the trailer

  parted : after ≡ rows_bytes rows ++ (trailer_bytes written_version (length xs) ++ rest)
  unfolding sheet_of
  parted =
      written
      ∙ append_assoc (rows_bytes rows) (trailer_bytes written_version (length rows)) rest
      ∙ ap (λ (n : ℕ). rows_bytes rows ++ (trailer_bytes written_version n ++ rest)) (rows-count zones e xs)

  pub has-sheet : 28 * length xs < 4294967296 → (size : ℕ) → size ≡ 28 * length xs + 12 → HasSheet (length xs) size before after
  has-sheet few size s =
      let n = length xs in
      let long : length (rows_bytes rows) ≡ 28 * n = rows-length rows ∙ ap (λ (m : ℕ). 28 * m) (rows-count zones e xs) in
      record {
        size_is = s;
        room = omega (arith, s);
        record_size = rw parted (size-read written_version n (28 * n) (rows_bytes rows) rest long);
        version = rw parted (version-read written_version n (28 * n) (rows_bytes rows) rest long (omega arith));
        count = rw parted (count-read written_version n (28 * n) (rows_bytes rows) rest long (omega arith));
        distance = rw parted (distance_read written_version n (28 * n) (rows_bytes rows) rest long (omega arith));
        others = rw s (ap (drop (28 * n + 12)) written ∙ drop_at (sheet_of written_version rows) rest (28 * n + 12) (table-length zones e xs));
        whole = ap length is ∙ length-sets before 0 (sheet_of written_version rows);
      }

  -- ---- record k: `d` stands for one past the last

  module _ (d : Row) (k : ℕ) (h : k < length xs) where
    there : k < length rows
    there = omega (arith, rows-count zones e xs)

    pub row_back : (most : ℕ) → sheet.Fits most (get_or (rows_for zones e xs) k d) → row_at after k ≡ get_or (rows_for zones e xs) k d
    row_back most f = rw parted (sheet.row_back rows (trailer_bytes written_version (length xs) ++ rest) d k there most f)

    pub zeros-back : zeros_at after k ≡ 0
    zeros-back = rw parted (sheet.zeros-back rows (trailer_bytes written_version (length xs) ++ rest) d k there)
