-- 02, request 3: "any bytes that it accepts as a whole are what the writer of that version would give for those records".
use Prim.Native.Nat.{ℕ, zero, suc, ◌+◌, ◌*◌, ◌<◌, ◌≤◌}
use mathlib.Core.List.{List, [], ◌∷◌, ◌++◌}
use mathlib.Core.Path.{◌≡◌, refl, sym, ap, ap₂, ◌∙◌}
use native.Mathlib.Omega.{arith}
use lib.ListN.{length, take, drop, length-drop, take-append-drop}
use lib.Seq.{take_all}
use borrow.Author.Tests.{eqb-true}
use Rattle.little_endian.specs.Bytes.{bytes_of, twos, number_at, signed_of, AllBytes}
use Rattle.little_endian.proofs.BackLaws.{twos-signed, part_join, number-bytes, number-below}
use Rattle.sheet.specs.Runs.{tabulate}
use Rattle.sheet.specs.Records.{id_at, start_at, end_at, marks_at, zeros_at, row_at}
use Rattle.sheet.specs.Writing.{row_bytes, rows_bytes, trailer_bytes, sheet_of}
use Rattle.sheet.specs.Reading.{before, size_of, version_of, count_of, distance_of, rows_of, clear_at, fault_of}
use Rattle.sheet.proofs.RunLaws.{every-at, tab-length}
use Rattle.sheet.proofs.Accepted.{Accepted, accepted-is}

-- ---- a record

one : (m : ℕ) → m < 256 → m ∷ [] ≡ bytes_of 1 m
unfolding bytes_of
one m h = ap (λ (x : ℕ). x ∷ []) (omega arith)

three : 0 ∷ 0 ∷ 0 ∷ [] ≡ bytes_of 3 0
unfolding bytes_of
three = refl

module _ (s : List ℕ) (b : AllBytes s) where
  -- four bytes: the marks, and three that are 0
  last-bytes : (k : ℕ) → 28 * k + 28 ≤ length s → zeros_at s k ≡ 0 → marks_at s k ∷ 0 ∷ 0 ∷ 0 ∷ [] ≡ take 4 (drop (28 * k + 24) s)
  unfolding marks_at zeros_at
  last-bytes k h z =
      let m = number-below 1 (28 * k + 24) s b (omega arith) in
      let e : 28 * k + 24 + 1 ≡ 28 * k + 25 = omega arith in
      let j = part_join 1 3 (28 * k + 24) s in
      let x = one (number_at 1 (28 * k + 24) s) (omega arith) ∙ number-bytes 1 (28 * k + 24) s b (omega arith) in
      let y = three ∙ (ap (bytes_of 3) (sym z) ∙ number-bytes 3 (28 * k + 25) s b (omega arith)) in
      ap (λ (l : List ℕ). l ++ (0 ∷ 0 ∷ 0 ∷ [])) x ∙ (ap (λ (l : List ℕ). take 1 (drop (28 * k + 24) s) ++ l) y ∙ (rw e at j))

  signed-bytes : (i : ℕ) → i + 8 ≤ length s → bytes_of 8 (twos (signed_of (number_at 8 i s))) ≡ take 8 (drop i s)
  signed-bytes i h = ap (bytes_of 8) (twos-signed (number_at 8 i s) (number-below 8 i s b h)) ∙ number-bytes 8 i s b h

  row_written : (k : ℕ) → 28 * k + 28 ≤ length s → zeros_at s k ≡ 0 → row_bytes (row_at s k) ≡ take 28 (drop (28 * k) s)
  unfolding row_bytes row_at id_at start_at end_at
  row_written k h z =
      let e : 28 * k + 8 + 8 ≡ 28 * k + 16 = omega arith in
      let f : 28 * k + 16 + 8 ≡ 28 * k + 24 = omega arith in
      let x = part_join 8 4 (28 * k + 16) s in
      let y = part_join 8 12 (28 * k + 8) s in
      let v = part_join 8 20 (28 * k) s in
      rw (
        signed-bytes (28 * k) (omega arith),
        signed-bytes (28 * k + 8) (omega arith),
        signed-bytes (28 * k + 16) (omega arith),
        last-bytes k h z,
        ← f,
        x,
        ← e,
        y,
        v,
      )

  -- n records from record k on
  rows_written : (k n : ℕ) → 28 * k + 28 * n ≤ length s → ((j : ℕ) → k ≤ j → j < k + n → zeros_at s j ≡ 0)
      → rows_bytes (tabulate (row_at s) k n) ≡ take (28 * n) (drop (28 * k) s)
  unfolding rows_bytes tabulate
  rows_written k zero h z = refl
  rows_written k (suc n) h z =
      let e : 28 * suc k ≡ 28 * k + 28 = omega arith in
      let m : 28 * suc n ≡ 28 + 28 * n = omega arith in
      rw (row_written k (omega arith) (z k (omega arith) (omega arith)), rows_written (suc k) n (omega arith) (λ j p q. z j (omega arith) (omega arith)), e, m)
      (part_join 28 (28 * n) (28 * k) s)

-- ---- the trailer, and the whole

module _ (s : List ℕ) (b : AllBytes s) (a : Accepted s) where
  trailer-written : trailer_bytes (version_of s) (count_of s) ≡ drop (before s) s
  unfolding trailer_bytes size_of version_of count_of distance_of
  trailer-written =
      let l = a.long in
      let e : before s + 2 + 2 ≡ before s + 4 = omega arith in
      let f : before s + 4 + 4 ≡ before s + 8 = omega arith in
      let x = part_join 4 4 (before s + 4) s in
      let y = part_join 2 8 (before s + 2) s in
      let v = part_join 2 10 (before s) s in
      let t : length (drop (before s) s) ≤ 12 = simp length-drop (omega arith) in
      rw (
        ← a.distance,
        ← a.size,
        number-bytes 2 (before s) s b (omega arith),
        number-bytes 2 (before s + 2) s b (omega arith),
        number-bytes 4 (before s + 4) s b (omega arith),
        number-bytes 4 (before s + 8) s b (omega arith),
        ← f,
        x,
        ← e,
        y,
        v,
      ) (take_all 12 (drop (before s) s) t)

  whole-written : sheet_of (version_of s) (rows_of s) ≡ s
  unfolding sheet_of rows_of
  whole-written =
      let l = a.long in
      let n : 28 * count_of s ≡ before s = sym a.distance ∙ a.place in
      let r = rows_written s b 0 (count_of s) (omega arith) (λ j p q. eqb-true (zeros_at s j) 0 (every-at (clear_at s) 0 (count_of s) a.clear j p q)) in
      rw (tab-length (row_at s) 0 (count_of s), trailer-written, r, n) (take-append-drop (before s) s)

pub read-written : (s : List ℕ) → AllBytes s → fault_of s ≡ 0 → sheet_of (version_of s) (rows_of s) ≡ s
read-written s b e = whole-written s b (accepted-is s e)

-- two accepted sheets of one version with the same records are the same bytes
pub same-sheet : (s t : List ℕ) → AllBytes s → AllBytes t → fault_of s ≡ 0 → fault_of t ≡ 0 → version_of s ≡ version_of t → rows_of s ≡ rows_of t → s ≡ t
same-sheet s t b c e f v r = sym (read-written s b e) ∙ (ap₂ sheet_of v r ∙ read-written t c f)
