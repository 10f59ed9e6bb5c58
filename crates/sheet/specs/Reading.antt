-- 02, request 3: "We want a reader that starts from the trailer and hands out record by number." Request 1 refuses what this reader refuses: "bytes
-- that break document 01's layout, ids and marks included".
use Rattle.std.specs.Prelude.{if◌then◌else◌, ℕ, suc, ◌+◌, ◌*◌, ◌-◌, Bool, not, ◌&&◌, List, ltb, leb, eqb, length}
use Rattle.std.specs.Int.Signed.{lt_z}
use Rattle.little_endian.specs.Bytes.{number_at}
use Rattle.sheet.specs.Runs.{tabulate, every}
use Rattle.sheet.specs.Records.{Row, id_at, marks_at, zeros_at, row_at}

-- ---- 01: "The trailer stands last and points back: record size 28 (2), version 1 (2), count (4), distance from trailer to first record (4)."

-- The bytes before the trailer.
abbrev pub before : List ℕ → ℕ
before s = length s - 12

unfoldable pub size_of : List ℕ → ℕ
size_of s = number_at 2 (before s) s

unfoldable pub version_of : List ℕ → ℕ
version_of s = number_at 2 (before s + 2) s

unfoldable pub count_of : List ℕ → ℕ
count_of s = number_at 4 (before s + 4) s

unfoldable pub distance_of : List ℕ → ℕ
distance_of s = number_at 4 (before s + 8) s

-- The records of a sheet, in order.
unfoldable pub rows_of : List ℕ → List Row
rows_of s = tabulate (row_at s) 0 (count_of s)

-- ---- what a version asks for

abbrev pub known : ℕ → Bool
known version = eqb version 1

-- "marks outside 0 to 7"
abbrev pub most_marks : ℕ → ℕ
most_marks version = 7

-- ---- the refusals

-- The id of record k is below that of the next one.
abbrev pub rises_at : List ℕ → ℕ → Bool
rises_at s k = lt_z (id_at s k) (id_at s (suc k))

abbrev pub marked_at : ℕ → List ℕ → ℕ → Bool
marked_at most s k = leb (marks_at s k) most

abbrev pub clear_at : List ℕ → ℕ → Bool
clear_at s k = eqb (zeros_at s k) 0

-- Of n records: "ids not strictly increasing, marks outside 0 to 7, zeros not zero".
unfoldable pub fault_in_rows : List ℕ → ℕ → ℕ → ℕ
fault_in_rows s most n =
    if not (every (rises_at s) 0 (n - 1)) then 38
    else if not (every (marked_at most s) 0 n) then 39
    else if not (every (clear_at s) 0 n) then 40
    else 0

-- "It refuses with 34 to 40, in this order: too short for a trailer, unknown version, wrong record size, a distance that isn't 28 times the count or
-- isn't the bytes before the trailer, ids not strictly increasing, marks outside 0 to 7, zeros not zero." 0: the sheet is accepted.
unfoldable pub fault_of : List ℕ → ℕ
fault_of s =
    if ltb (length s) 12 then 34
    else if not (known (version_of s)) then 35
    else if not (eqb (size_of s) 28) then 36
    else if not (eqb (distance_of s) (28 * count_of s) && eqb (distance_of s) (before s)) then 37
    else fault_in_rows s (most_marks (version_of s)) (count_of s)
