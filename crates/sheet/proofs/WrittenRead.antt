-- 02, request 3: "Every sheet the library writes is read back to the records that made it": of all records that the writer of a version can take.
use Prim.Native.Nat.{ℕ, suc, ◌+◌, ◌*◌, ◌-◌, ◌<◌, ◌≤◌, ◌^◌}
use mathlib.Core.Bool.{true}
use mathlib.Core.List.{List, [], ◌++◌, append-nil}
use mathlib.Core.Path.{◌≡◌, sym, ap, ap₂, ◌∙◌}
use native.Mathlib.Omega.{arith}
use lib.ListN.{length, take, drop, get_or}
use lib.Seq.{length-take-le}
use lib.Signed.{lt_z}
use mir.Syntax.{w64}
use mir.Val.{SFits}
use borrow.Author.Tests.{le-leb, eq-eqb, eqb-true}
use Rattle.little_endian.specs.Bytes.{number_at}
use Rattle.sheet.specs.Runs.{every}
use Rattle.sheet.specs.Records.{Row, id_at, marks_at, zeros_at, row_at}
use Rattle.sheet.specs.Writing.{rows_bytes, trailer_bytes, sheet_of}
use Rattle.sheet.specs.Reading.{before, size_of, version_of, count_of, distance_of, rows_of, known, most_marks, rises_at, marked_at, clear_at, fault_of}
use Rattle.sheet.proofs.RunLaws.{every-all, tab-drop}
use Rattle.sheet.proofs.Accepted.{is-accepted}
use Rattle.sheet.proofs.WrittenLaws.{rows-length, sheet-length, rows_split, id-read, start-read, end_read, marks-read, zeros-read, size-read, version-read, count-read, distance_read}

-- The numbers of a record fit into its bytes.
pub record Fits (most : ℕ) (r : Row) : Type 0 where
  pub id : SFits w64 r.id
  pub start : SFits w64 r.start
  pub end : SFits w64 r.end
  pub marks : r.marks ≤ most

-- What the writer of a version can take: `d` stands for a record past the last.
pub record Writable (version : ℕ) (d : Row) (rows : List Row) : Type 0 where
  pub version_known : known version ≡ true
  pub few : 28 * length rows < 2 ^ 32
  pub fits : (k : ℕ) → k < length rows → Fits (most_marks version) (get_or rows k d)
  pub rising : (k : ℕ) → suc k < length rows → lt_z (get_or rows k d).id (get_or rows (suc k) d).id ≡ true

-- ---- record k, with q after the records

module _ (rows : List Row) (q : List ℕ) (d : Row) (k : ℕ) (h : k < length rows) where
  abbrev row : Row
  row = get_or rows k d

  abbrev earlier : List ℕ
  earlier = rows_bytes (take k rows)

  abbrev later : List ℕ
  later = rows_bytes (drop (suc k) rows) ++ q

  long : length earlier ≡ 28 * k
  long = rows-length (take k rows) ∙ ap (λ (n : ℕ). 28 * n) (length-take-le k rows (omega arith))

  pub row_back : (most : ℕ) → Fits most (get_or rows k d) → row_at (rows_bytes rows ++ q) k ≡ get_or rows k d
  unfolding row_at
  row_back most f =
      rw (
        rows_split rows k q d h,
        id-read row k earlier later long f.id,
        start-read row k earlier later long f.start,
        end_read row k earlier later long f.end,
        marks-read row k earlier later long,
      )

  pub zeros-back : zeros_at (rows_bytes rows ++ q) k ≡ 0
  zeros-back = rw (rows_split rows k q d h) (zeros-read row k earlier later long)

-- ---- the whole sheet

module _ (version : ℕ) (d : Row) (rows : List Row) (w : Writable version d rows) where
  abbrev n : ℕ
  n = length rows

  abbrev sheet : List ℕ
  sheet = sheet_of version rows

  row_is : (k : ℕ) → k < n → row_at sheet k ≡ get_or rows k d
  unfolding sheet_of
  row_is k h = row_back rows (trailer_bytes version n) d k h (most_marks version) (w.fits k h)

  id_is : (k : ℕ) → k < n → id_at sheet k ≡ (get_or rows k d).id
  unfolding row_at
  id_is k h = ap (λ (r : Row). r.id) (row_is k h)

  marks_is : (k : ℕ) → k < n → marks_at sheet k ≡ (get_or rows k d).marks
  unfolding row_at
  marks_is k h = ap (λ (r : Row). r.marks) (row_is k h)

  zeros-is : (k : ℕ) → k < n → zeros_at sheet k ≡ 0
  unfolding sheet_of
  zeros-is k h = zeros-back rows (trailer_bytes version n) d k h

  -- ---- its trailer

  before-is : before sheet ≡ 28 * n
  before-is = omega (arith, sheet-length version rows)

  parted : sheet ≡ rows_bytes rows ++ (trailer_bytes version n ++ [])
  unfolding sheet_of
  parted = rw (append-nil (trailer_bytes version n))

  field : (m i v : ℕ) → number_at m (28 * n + i) (rows_bytes rows ++ (trailer_bytes version n ++ [])) ≡ v → number_at m (before sheet + i) sheet ≡ v
  field m i v e = ap (λ (k : ℕ). number_at m (k + i) sheet) before-is ∙ ap (number_at m (28 * n + i)) parted ∙ e

  size_is : size_of sheet ≡ 28
  unfolding size_of
  size_is = ap (λ (k : ℕ). number_at 2 k sheet) before-is ∙ ap (number_at 2 (28 * n)) parted ∙ size-read version n (28 * n) (rows_bytes rows) [] (rows-length rows)

  pub version-back : version_of sheet ≡ version
  unfolding version_of
  version-back = field 2 2 version (version-read version n (28 * n) (rows_bytes rows) [] (rows-length rows) (omega (arith, eqb-true version 1 w.version_known)))

  pub count-back : count_of sheet ≡ n
  unfolding count_of
  count-back = field 4 4 n (count-read version n (28 * n) (rows_bytes rows) [] (rows-length rows) (omega (arith, w.few)))

  distance_is : distance_of sheet ≡ 28 * n
  unfolding distance_of
  distance_is = field 4 8 (28 * n) (distance_read version n (28 * n) (rows_bytes rows) [] (rows-length rows) w.few)

  -- ---- "read back to the records that made it"

  pub rows_back : rows_of (sheet_of version rows) ≡ rows
  unfolding rows_of
  rows_back = rw count-back (tab-drop (row_at sheet) rows d 0 n (omega arith) row_is)

  pub written-accepted : fault_of (sheet_of version rows) ≡ 0
  written-accepted =
      is-accepted sheet
      (record {
        long = omega (arith, sheet-length version rows);
        version = rw version-back w.version_known;
        size = size_is;
        distance = rw count-back distance_is;
        place = distance_is ∙ sym before-is;
        rising = rw count-back (every-all (rises_at sheet) 0 (n - 1) (λ k a b. rw (id_is k (omega arith), id_is (suc k) (omega arith)) (w.rising k (omega arith))));
        marked =
            ap₂ (λ (v m : ℕ). every (marked_at (most_marks v) sheet) 0 m) version-back count-back
            ∙ every-all (marked_at (most_marks version) sheet) 0 n (λ k a b. rw (marks_is k (omega arith)) (le-leb _ (most_marks version) (w.fits k (omega arith)).marks));
        clear = rw count-back (every-all (clear_at sheet) 0 n (λ k a b. eq-eqb _ 0 (zeros-is k (omega arith))));
      })
