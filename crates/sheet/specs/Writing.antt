-- 01, "The sheet and the words": the bytes of a sheet, from the records that it is made of. "Little-endian."
use Rattle.std.specs.Prelude.{ℕ, ◌*◌, List, [], ◌∷◌, ◌++◌, length}
use Rattle.little_endian.specs.Bytes.{bytes_of, twos}
use Rattle.sheet.specs.Records.{Row}

-- "Records of 28 bytes by id: id in local seconds, UTC start, UTC end (8 each, signed), marks (1: busy 1, all-day 2, floating 4), three zeros."
unfoldable pub row_bytes : Row → List ℕ
row_bytes r = bytes_of 8 (twos r.id) ++ (bytes_of 8 (twos r.start) ++ (bytes_of 8 (twos r.end) ++ (r.marks ∷ 0 ∷ 0 ∷ 0 ∷ [])))

unfoldable pub rows_bytes : List Row → List ℕ
rows_bytes [] = []
rows_bytes (r ∷ rs) = row_bytes r ++ rows_bytes rs

-- "The trailer stands last and points back: record size 28 (2), version 1 (2), count (4), distance from trailer to first record (4)."
unfoldable pub trailer_bytes : ℕ → ℕ → List ℕ
trailer_bytes version count = bytes_of 2 28 ++ (bytes_of 2 version ++ (bytes_of 4 count ++ bytes_of 4 (28 * count)))

-- What the writer of a version gives for some records.
unfoldable pub sheet_of : ℕ → List Row → List ℕ
sheet_of version rows = rows_bytes rows ++ trailer_bytes version (length rows)
