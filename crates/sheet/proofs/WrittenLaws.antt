-- The bytes of a sheet: how many there are, where a record stands among them, and the numbers of a record and of a trailer, read back.
use Prim.Native.Nat.{ℕ, zero, suc, ◌+◌, ◌*◌, ◌<◌, ◌^◌}
use mathlib.Core.List.{List, [], ◌∷◌, ◌++◌, append_assoc}
use mathlib.Core.Path.{◌≡◌, refl, sym, ap, ◌∙◌}
use native.Mathlib.Omega.{arith}
use lib.IntN.{ℤ}
use lib.ListN.{length, length-append, take, drop, get_or}
use lib.Seq.{drop_at, drop-drop}
use mir.Syntax.{w64}
use mir.Val.{SFits}
use Rattle.little_endian.specs.Bytes.{bytes_of, twos, value_of, signed_of, number_at}
use Rattle.little_endian.proofs.ByteLaws.{bytes-length, signed-twos, twos_small, field_at}
use Rattle.sheet.specs.Records.{Row, id_at, start_at, end_at, marks_at, zeros_at}
use Rattle.sheet.specs.Writing.{row_bytes, rows_bytes, trailer_bytes, sheet_of}

pub row_length : (r : Row) → length (row_bytes r) ≡ 28
unfolding row_bytes
row_length r = simp (length-append, bytes-length)

pub rows-length : (rows : List Row) → length (rows_bytes rows) ≡ 28 * length rows
unfolding rows_bytes
rows-length [] = refl
rows-length (r ∷ rs) = length-append (row_bytes r) (rows_bytes rs) ∙ omega (arith, row_length r, rows-length rs)

pub trailer-length : (version count : ℕ) → length (trailer_bytes version count) ≡ 12
unfolding trailer_bytes
trailer-length version count = simp (length-append, bytes-length)

pub sheet-length : (version : ℕ) (rows : List Row) → length (sheet_of version rows) ≡ 28 * length rows + 12
unfolding sheet_of
sheet-length version rows =
    length-append (rows_bytes rows) (trailer_bytes version (length rows)) ∙ omega (arith, rows-length rows, trailer-length version (length rows))

-- some records, and more
pub rows_append : (a b : List Row) → rows_bytes (a ++ b) ≡ rows_bytes a ++ rows_bytes b
unfolding rows_bytes
rows_append [] b = refl
rows_append (r ∷ a) b = rw (rows_append a b) (sym (append_assoc (row_bytes r) (rows_bytes a) (rows_bytes b)))

-- record k among all of them, with q after them
pub rows_split : (rows : List Row) (k : ℕ) (q : List ℕ) (d : Row) → k < length rows
    → rows_bytes rows ++ q ≡ rows_bytes (take k rows) ++ (row_bytes (get_or rows k d) ++ (rows_bytes (drop (suc k) rows) ++ q))
unfolding rows_bytes
rows_split [] k q d h = absurd (omega arith)
rows_split (r ∷ rs) zero q d h = append_assoc (row_bytes r) (rows_bytes rs) q
rows_split (r ∷ rs) (suc k) q d h =
    append_assoc (row_bytes r) (rows_bytes rs) q
    ∙ (ap (λ (l : List ℕ). row_bytes r ++ l) (rows_split rs k q d (omega arith)) ∙ sym (append_assoc (row_bytes r) (rows_bytes (take k rs)) _))

-- ---- a signed number that stands after p, with q after it

signed-at : (z : ℤ) (p q : List ℕ) (i : ℕ) → length p ≡ i → SFits w64 z → signed_of (number_at 8 i (p ++ (bytes_of 8 (twos z) ++ q))) ≡ z
signed-at z p q i h f = rw (field_at 8 (twos z) p q i h (twos_small z f)) (signed-twos z f)

-- ---- the numbers of a record that stands after p, with q after it

module _ (r : Row) (k : ℕ) (p q : List ℕ) (h : length p ≡ 28 * k) where
  pub id-read : SFits w64 r.id → id_at (p ++ (row_bytes r ++ q)) k ≡ r.id
  unfolding id_at row_bytes
  id-read f =
      let e : p ++ (row_bytes r ++ q) ≡ p ++ (bytes_of 8 (twos r.id) ++ (bytes_of 8 (twos r.start) ++ (bytes_of 8 (twos r.end) ++ (r.marks ∷ 0 ∷ 0 ∷ 0 ∷ q)))) = simp append_assoc in
      rw e (signed-at r.id p (bytes_of 8 (twos r.start) ++ (bytes_of 8 (twos r.end) ++ (r.marks ∷ 0 ∷ 0 ∷ 0 ∷ q))) (28 * k) h f)

  pub start-read : SFits w64 r.start → start_at (p ++ (row_bytes r ++ q)) k ≡ r.start
  unfolding start_at row_bytes
  start-read f =
      let w = p ++ bytes_of 8 (twos r.id) in
      let g : length w ≡ 28 * k + 8 = simp (length-append, bytes-length) (omega arith) in
      let e : p ++ (row_bytes r ++ q) ≡ w ++ (bytes_of 8 (twos r.start) ++ (bytes_of 8 (twos r.end) ++ (r.marks ∷ 0 ∷ 0 ∷ 0 ∷ q))) = simp append_assoc in
      rw e (signed-at r.start w (bytes_of 8 (twos r.end) ++ (r.marks ∷ 0 ∷ 0 ∷ 0 ∷ q)) (28 * k + 8) g f)

  pub end_read : SFits w64 r.end → end_at (p ++ (row_bytes r ++ q)) k ≡ r.end
  unfolding end_at row_bytes
  end_read f =
      let w = p ++ (bytes_of 8 (twos r.id) ++ bytes_of 8 (twos r.start)) in
      let g : length w ≡ 28 * k + 16 = simp (length-append, bytes-length) (omega arith) in
      let e : p ++ (row_bytes r ++ q) ≡ w ++ (bytes_of 8 (twos r.end) ++ (r.marks ∷ 0 ∷ 0 ∷ 0 ∷ q)) = simp append_assoc in
      rw e (signed-at r.end w (r.marks ∷ 0 ∷ 0 ∷ 0 ∷ q) (28 * k + 16) g f)

  last-read : drop (28 * k + 24) (p ++ (row_bytes r ++ q)) ≡ r.marks ∷ 0 ∷ 0 ∷ 0 ∷ q
  unfolding row_bytes
  last-read =
      let w = p ++ (bytes_of 8 (twos r.id) ++ (bytes_of 8 (twos r.start) ++ bytes_of 8 (twos r.end))) in
      let g : length w ≡ 28 * k + 24 = simp (length-append, bytes-length) (omega arith) in
      let e : p ++ (row_bytes r ++ q) ≡ w ++ (r.marks ∷ 0 ∷ 0 ∷ 0 ∷ q) = simp append_assoc in
      rw e (drop_at w (r.marks ∷ 0 ∷ 0 ∷ 0 ∷ q) (28 * k + 24) g)

  pub marks-read : marks_at (p ++ (row_bytes r ++ q)) k ≡ r.marks
  unfolding marks_at number_at value_of
  marks-read = rw last-read (omega arith)

  pub zeros-read : zeros_at (p ++ (row_bytes r ++ q)) k ≡ 0
  unfolding zeros_at number_at value_of
  zeros-read =
      let more : 28 * k + 25 ≡ 28 * k + 24 + 1 = omega arith in
      let e : drop (28 * k + 25) (p ++ (row_bytes r ++ q)) ≡ 0 ∷ 0 ∷ 0 ∷ q = ap (λ (i : ℕ). drop i (p ++ (row_bytes r ++ q))) more ∙ (sym (drop-drop 1 (28 * k + 24) (p ++ (row_bytes r ++ q))) ∙ ap (drop 1) last-read) in
      rw e

-- ---- the numbers of a trailer that stands after p, with q after it

module _ (version count i : ℕ) (p q : List ℕ) (h : length p ≡ i) where
  pub size-read : number_at 2 i (p ++ (trailer_bytes version count ++ q)) ≡ 28
  unfolding trailer_bytes
  size-read =
      let rest = bytes_of 2 version ++ (bytes_of 4 count ++ (bytes_of 4 (28 * count) ++ q)) in
      let e : p ++ (trailer_bytes version count ++ q) ≡ p ++ (bytes_of 2 28 ++ rest) = simp append_assoc in
      rw e (field_at 2 28 p rest i h (omega arith))

  pub version-read : version < 65536 → number_at 2 (i + 2) (p ++ (trailer_bytes version count ++ q)) ≡ version
  unfolding trailer_bytes
  version-read small =
      let w = p ++ bytes_of 2 28 in
      let rest = bytes_of 4 count ++ (bytes_of 4 (28 * count) ++ q) in
      let g : length w ≡ i + 2 = simp (length-append, bytes-length) (omega arith) in
      let e : p ++ (trailer_bytes version count ++ q) ≡ w ++ (bytes_of 2 version ++ rest) = simp append_assoc in
      rw e (field_at 2 version w rest (i + 2) g (omega arith))

  pub count-read : count < 2 ^ 32 → number_at 4 (i + 4) (p ++ (trailer_bytes version count ++ q)) ≡ count
  unfolding trailer_bytes
  count-read few =
      let w = p ++ (bytes_of 2 28 ++ bytes_of 2 version) in
      let g : length w ≡ i + 4 = simp (length-append, bytes-length) (omega arith) in
      let e : p ++ (trailer_bytes version count ++ q) ≡ w ++ (bytes_of 4 count ++ (bytes_of 4 (28 * count) ++ q)) = simp append_assoc in
      rw e (field_at 4 count w (bytes_of 4 (28 * count) ++ q) (i + 4) g (omega arith))

  pub distance_read : 28 * count < 2 ^ 32 → number_at 4 (i + 8) (p ++ (trailer_bytes version count ++ q)) ≡ 28 * count
  unfolding trailer_bytes
  distance_read few =
      let w = p ++ (bytes_of 2 28 ++ (bytes_of 2 version ++ bytes_of 4 count)) in
      let g : length w ≡ i + 8 = simp (length-append, bytes-length) (omega arith) in
      let e : p ++ (trailer_bytes version count ++ q) ≡ w ++ (bytes_of 4 (28 * count) ++ q) = simp append_assoc in
      rw e (field_at 4 (28 * count) w q (i + 8) g (omega arith))
