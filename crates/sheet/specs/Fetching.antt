-- 02, request 3: what the reader's calls hand back. "We want a reader that starts from the trailer and hands out record by number."
use Rattle.std.specs.Prelude.{if◌then◌else◌, ℕ, not, List, ◌++◌, map, ◌≡◌, leb, eqb, ℤ, pos, length, take, drop}
use Rattle.sheet.specs.Records.{Row, row_at}
use Rattle.sheet.specs.Reading.{version_of, count_of, rows_of, fault_of}

-- ---- the whole sheet: its version, and how many records it has

pub record Summary : Type 0 where
  pub answer : ℕ
  pub version : ℕ
  pub count : ℕ

-- Where the sheet is refused, both numbers are 0.
unfoldable pub summary_of : List ℕ → Summary
summary_of s =
    let read : Summary = record { answer = 0; version = version_of s; count = count_of s } in
    if eqb (fault_of s) 0 then read else record { answer = fault_of s; version = 0; count = 0 }

-- ---- one record, by its number from 0 on

-- "A record number at or over the count is 41." 34 to 40 come first.
unfoldable pub fetch_fault : List ℕ → ℕ → ℕ
fetch_fault s number =
    if not (eqb (fault_of s) 0) then fault_of s
    else if leb (count_of s) number then 41
    else 0

pub record Fetched : Type 0 where
  pub answer : ℕ
  pub row : Row

unfoldable pub fetch_of : List ℕ → ℕ → Fetched
fetch_of s number =
    let read : Fetched = record { answer = 0; row = row_at s number } in
    if eqb (fetch_fault s number) 0 then read
    else record { answer = fetch_fault s number; row = record { id = pos 0; start = pos 0; end = pos 0; marks = 0 } }

-- ---- the records from a number on, in four lent slices

pub record Run : Type 0 where
  pub answer : ℕ
  pub count : ℕ
  pub ids : List ℤ
  pub starts : List ℤ
  pub ends : List ℤ
  pub marks : List ℕ

-- The first elements of a lent slice get values: "a buffer keeps what lies past the result".
abbrev pub over : {A : Type 0} → List A → List A → List A
over values lent = values ++ drop (length values) lent

unfoldable pub handed_out : List Row → List ℤ → List ℤ → List ℤ → List ℕ → Run
handed_out rows ids starts ends marks =
    record {
      answer = 0;
      count = length rows;
      ids = over (map (λ (r : Row). r.id) rows) ids;
      starts = over (map (λ (r : Row). r.start) rows) starts;
      ends = over (map (λ (r : Row). r.end) rows) ends;
      marks = over (map (λ (r : Row). r.marks) rows) marks;
    }

-- As many as each of the four slices has room for. "Here and later a refusal changes nothing".
unfoldable pub run_of : List ℕ → ℕ → List ℤ → List ℤ → List ℤ → List ℕ → Run
run_of s first ids starts ends marks =
    let rows = take (length ids) (take (length starts) (take (length ends) (take (length marks) (drop first (rows_of s))))) in
    let read = handed_out rows ids starts ends marks in
    if eqb (fetch_fault s first) 0 then read
    else record { answer = fetch_fault s first; count = 0; ids = ids; starts = starts; ends = ends; marks = marks }

-- ---- a call's results, held against the definition: its number, what it hands out, and every element that was lent

pub record Summarises (r : Summary) (answer version count : ℕ) : Type 0 where
  pub answer_is : answer ≡ r.answer
  pub version_is : version ≡ r.version
  pub count_is : count ≡ r.count

pub record Fetches (r : Fetched) (answer : ℕ) (id start end : ℤ) (marks : ℕ) : Type 0 where
  pub answer_is : answer ≡ r.answer
  pub id_is : id ≡ r.row.id
  pub start_is : start ≡ r.row.start
  pub end_is : end ≡ r.row.end
  pub marks_is : marks ≡ r.row.marks

pub record FetchesRun (r : Run) (answer count : ℕ) (ids starts ends : List ℤ) (marks : List ℕ) : Type 0 where
  pub answer_is : answer ≡ r.answer
  pub count_is : count ≡ r.count
  pub ids_are : ids ≡ r.ids
  pub starts_are : starts ≡ r.starts
  pub ends_are : ends ≡ r.ends
  pub marks_are : marks ≡ r.marks
