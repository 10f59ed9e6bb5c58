-- 01's worked sheet of 40 bytes is accepted and read to its record; so is the trailer alone, to none; both are what the writer gives. Sheets of two
-- records with one fault each. What the reader's calls hand out.
use mathlib.Core.List.{List, [], ◌∷◌, ◌++◌}
use mathlib.Core.Path.{◌≡◌, refl}
use Prim.Native.Nat.{ℕ}
use lib.IntN.{ℤ, pos}
use Rattle.little_endian.specs.Bytes.{bytes_of, twos, value_of, signed_of, number_at}
use Rattle.sheet.specs.Runs.{tabulate, every}
use Rattle.sheet.specs.Records.{Row, id_at, start_at, end_at, marks_at, zeros_at, row_at}
use Rattle.sheet.specs.Writing.{row_bytes, rows_bytes, trailer_bytes, sheet_of}
use Rattle.sheet.specs.Fetching.{summary_of, fetch_fault, fetch_of, Run, handed_out, run_of}
use Rattle.sheet.specs.Reading.{size_of, version_of, count_of, distance_of, rows_of, fault_in_rows, fault_of}

-- "D0 A5 5C 5A 00 00 00 00  20 EC 5C 5A 00 00 00 00  30 FA 5C 5A 00 00 00 00  01 00 00 00  1C 00 01 00 01 00 00 00 1C 00 00 00"
abbrev pub sheet : List ℕ
sheet =
    208 ∷ 165 ∷ 92 ∷ 90 ∷ 0 ∷ 0 ∷ 0 ∷ 0 ∷ 32 ∷ 236 ∷ 92 ∷ 90 ∷ 0 ∷ 0 ∷ 0 ∷ 0 ∷ 48 ∷ 250 ∷ 92 ∷ 90 ∷ 0 ∷ 0 ∷ 0 ∷ 0
    ∷ 1 ∷ 0 ∷ 0 ∷ 0 ∷ 28 ∷ 0 ∷ 1 ∷ 0 ∷ 1 ∷ 0 ∷ 0 ∷ 0 ∷ 28 ∷ 0 ∷ 0 ∷ 0 ∷ []

-- Its one record.
abbrev worked : Row
worked = record { id = pos 1516021200; start = pos 1516039200; end = pos 1516042800; marks = 1 }

-- "Window with equal ends: the trailer alone, `1C 00 01 00 00 00 00 00 00 00 00 00`"
abbrev pub alone : List ℕ
alone = 28 ∷ 0 ∷ 1 ∷ 0 ∷ 0 ∷ 0 ∷ 0 ∷ 0 ∷ 0 ∷ 0 ∷ 0 ∷ 0 ∷ []

pub sheet-accepted : fault_of sheet ≡ 0
unfolding fault_of fault_in_rows size_of version_of count_of distance_of id_at marks_at zeros_at number_at value_of signed_of every
sheet-accepted = refl

pub sheet-read : rows_of sheet ≡ worked ∷ []
unfolding rows_of tabulate row_at count_of id_at start_at end_at marks_at number_at value_of signed_of
sheet-read = refl

pub alone-accepted : fault_of alone ≡ 0
unfolding fault_of fault_in_rows size_of version_of count_of distance_of id_at marks_at zeros_at number_at value_of signed_of every
alone-accepted = refl

pub alone-read : rows_of alone ≡ []
unfolding rows_of tabulate count_of number_at value_of
alone-read = refl

-- ---- the refusals, of sheets of two records

-- a record with an id, marks and three bytes after them
abbrev made : ℕ → ℕ → ℕ → ℕ → ℕ → List ℕ
made id marks a b c =
    id ∷ 0 ∷ 0 ∷ 0 ∷ 0 ∷ 0 ∷ 0 ∷ 0 ∷ 0 ∷ 0 ∷ 0 ∷ 0 ∷ 0 ∷ 0 ∷ 0 ∷ 0 ∷ 0 ∷ 0 ∷ 0 ∷ 0 ∷ 0 ∷ 0 ∷ 0 ∷ 0 ∷ marks ∷ a ∷ b ∷ c ∷ []

abbrev ended : ℕ → ℕ → ℕ → ℕ → List ℕ
ended size version count distance = size ∷ 0 ∷ version ∷ 0 ∷ count ∷ 0 ∷ 0 ∷ 0 ∷ distance ∷ 0 ∷ 0 ∷ 0 ∷ []

abbrev two : List ℕ → List ℕ → ℕ
two first second = fault_of (first ++ (second ++ ended 28 1 2 56))

abbrev with : List ℕ → ℕ
with trailer = fault_of (made 1 0 0 0 0 ++ (made 2 0 0 0 0 ++ trailer))

-- "too short for a trailer, unknown version, wrong record size, a distance that isn't 28 times the count or isn't the bytes before the trailer"
pub trailers :
    fault_of (0 ∷ 1 ∷ 0 ∷ 2 ∷ 0 ∷ 0 ∷ 0 ∷ 56 ∷ 0 ∷ 0 ∷ 0 ∷ []) ∷ with (ended 28 0 2 56) ∷ with (ended 28 2 2 56) ∷ with (ended 27 1 2 56) ∷ with (ended 28 1 1 56) ∷ with (ended 28 1 1 28) ∷ with (ended 28 1 2 56) ∷ []
    ≡ 34 ∷ 35 ∷ 35 ∷ 36 ∷ 37 ∷ 37 ∷ 0 ∷ []
unfolding fault_of fault_in_rows size_of version_of count_of distance_of id_at marks_at zeros_at number_at value_of signed_of every
trailers = refl

-- "ids not strictly increasing": equal, and falling
pub ids : two (made 1 0 0 0 0) (made 1 0 0 0 0) ∷ two (made 2 0 0 0 0) (made 1 0 0 0 0) ∷ [] ≡ 38 ∷ 38 ∷ []
unfolding fault_of fault_in_rows size_of version_of count_of distance_of id_at marks_at zeros_at number_at value_of signed_of every
ids = refl

-- "marks outside 0 to 7", also where a byte after them is no zero
pub marks : two (made 1 7 0 0 0) (made 2 7 0 0 0) ∷ two (made 1 0 0 0 0) (made 2 8 0 0 0) ∷ two (made 1 0 1 0 0) (made 2 8 0 0 0) ∷ [] ≡ 0 ∷ 39 ∷ 39 ∷ []
unfolding fault_of fault_in_rows size_of version_of count_of distance_of id_at marks_at zeros_at number_at value_of signed_of every
marks = refl

-- "zeros not zero": each of the three
pub zeros : two (made 1 0 1 0 0) (made 2 0 0 0 0) ∷ two (made 1 0 0 1 0) (made 2 0 0 0 0) ∷ two (made 1 0 0 0 0) (made 2 0 0 0 1) ∷ [] ≡ 40 ∷ 40 ∷ 40 ∷ []
unfolding fault_of fault_in_rows size_of version_of count_of distance_of id_at marks_at zeros_at number_at value_of signed_of every
zeros = refl

-- ---- the same two sheets as the writer gives them

pub sheet-written : sheet_of 1 (worked ∷ []) ≡ sheet
unfolding sheet_of rows_bytes row_bytes trailer_bytes bytes_of twos
sheet-written = refl

pub alone-written : sheet_of 1 [] ≡ alone
unfolding sheet_of rows_bytes trailer_bytes bytes_of
alone-written = refl

-- ---- the reader's calls

-- version and count; of bytes that are refused neither
pub summaries :
    summary_of sheet ∷ summary_of alone ∷ summary_of (made 1 0 0 0 0 ++ (made 2 0 0 0 0 ++ ended 28 2 2 56)) ∷ []
    ≡ record { answer = 0; version = 1; count = 1 } ∷ record { answer = 0; version = 1; count = 0 } ∷ record { answer = 35; version = 0; count = 0 } ∷ []
unfolding summary_of fault_of fault_in_rows size_of version_of count_of distance_of id_at marks_at zeros_at number_at value_of signed_of every
summaries = refl

-- the one record, and none after it
pub fetches :
    fetch_of sheet 0 ∷ fetch_of sheet 1 ∷ fetch_of alone 0 ∷ []
    ≡ record { answer = 0; row = worked }
    ∷ record { answer = 41; row = record { id = pos 0; start = pos 0; end = pos 0; marks = 0 } }
    ∷ record { answer = 41; row = record { id = pos 0; start = pos 0; end = pos 0; marks = 0 } }
    ∷ []
unfolding fetch_of fetch_fault row_at start_at end_at fault_of fault_in_rows size_of version_of count_of distance_of id_at marks_at zeros_at number_at value_of signed_of every
fetches = refl

-- two records into slices of 3, 3, 3 and as many marks as are given
abbrev ran : ℕ → List ℕ → Run
ran first marks =
    let lent = pos 7 ∷ pos 8 ∷ pos 9 ∷ [] in
    run_of (made 1 5 0 0 0 ++ (made 2 6 0 0 0 ++ ended 28 1 2 56)) first lent lent lent marks

abbrev handed : ℕ → ℕ → List ℤ → List ℤ → List ℕ → Run
handed answer count ids times marks = record { answer = answer; count = count; ids = ids; starts = times; ends = times; marks = marks }

-- both records; the second alone; the first alone, since there is room for one; none, since there is no room; and no record after the second
pub runs :
    ran 0 (3 ∷ 3 ∷ 3 ∷ []) ∷ ran 1 (3 ∷ 3 ∷ 3 ∷ []) ∷ ran 0 (3 ∷ []) ∷ ran 1 [] ∷ ran 2 [] ∷ []
    ≡ handed 0 2 (pos 1 ∷ pos 2 ∷ pos 9 ∷ []) (pos 0 ∷ pos 0 ∷ pos 9 ∷ []) (5 ∷ 6 ∷ 3 ∷ [])
    ∷ handed 0 1 (pos 2 ∷ pos 8 ∷ pos 9 ∷ []) (pos 0 ∷ pos 8 ∷ pos 9 ∷ []) (6 ∷ 3 ∷ 3 ∷ [])
    ∷ handed 0 1 (pos 1 ∷ pos 8 ∷ pos 9 ∷ []) (pos 0 ∷ pos 8 ∷ pos 9 ∷ []) (5 ∷ [])
    ∷ handed 0 0 (pos 7 ∷ pos 8 ∷ pos 9 ∷ []) (pos 7 ∷ pos 8 ∷ pos 9 ∷ []) []
    ∷ handed 41 0 (pos 7 ∷ pos 8 ∷ pos 9 ∷ []) (pos 7 ∷ pos 8 ∷ pos 9 ∷ []) []
    ∷ []
unfolding run_of handed_out fetch_fault rows_of tabulate row_at start_at end_at fault_of fault_in_rows size_of version_of count_of distance_of id_at marks_at zeros_at number_at value_of signed_of every
runs = refl
