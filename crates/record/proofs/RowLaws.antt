-- A record and a trailer as bytes stored one part after the other, and the marks of an occurrence.
use Prim.Native.Nat.{ℕ, suc, ◌+◌, ◌*◌, ◌/◌, ◌%◌, ◌<◌}
use mathlib.Core.List.{List, [], ◌∷◌, ◌++◌}
use mathlib.Core.Option.{Option}
use mathlib.Core.Path.{◌≡◌, refl, ap, ◌∙◌}
use native.Mathlib.Omega.{arith}
use lib.IntN.{ℤ}
use lib.ListN.{length, set}
use lib.Seq.{sets}
use mir.Syntax.{w64}
use mir.Val.{SFits, to_z, of_z}
use mir.Facts.{to_z-of_z}
use Rattle.little_endian.specs.Bytes.{bytes_of, twos}
use Rattle.little_endian.proofs.ByteLaws.{bytes-length}
use Rattle.event.specs.Types.{Details}
use Rattle.sheet.specs.Writing.{row_bytes, trailer_bytes}
use Rattle.call_definitions.specs.Utc.{is_floating}
use Rattle.call_definitions.specs.Bytes.{marks_of, written_version}
use Rattle.record.specs.Inner.Rows.{marks_for}

pub marks-of : (zone : Option (List ℕ)) (d : Details) → marks_of zone d ≡ marks_for d.busy d.all_day (is_floating zone)
unfolding marks_of marks_for
marks-of zone d = refl

-- ---- stores one after the other

pub sets-append : (a b l : List ℕ) (i : ℕ) → sets l i (a ++ b) ≡ sets (sets l i a) (i + length a) b
sets-append [] b l i = ap (λ (k : ℕ). sets l k b) (omega arith)
sets-append (x ∷ a) b l i = sets-append a b (set l i x) (suc i) ∙ ap (λ (k : ℕ). sets (sets (set l i x) (suc i) a) k b) (omega arith)

-- the bytes of a number, then more
pub bytes-append : (n v : ℕ) (b l : List ℕ) (i : ℕ) → sets l i (bytes_of n v ++ b) ≡ sets (sets l i (bytes_of n v)) (i + n) b
bytes-append n v b l i =
    sets-append (bytes_of n v) b l i ∙ ap (λ (k : ℕ). sets (sets l i (bytes_of n v)) (i + k) b) (bytes-length n v)

-- ---- a byte, and a number's lowest four

pub byte-bytes : (m : ℕ) → m < 256 → bytes_of 4 m ≡ m ∷ 0 ∷ 0 ∷ 0 ∷ []
unfolding bytes_of
byte-bytes m h =
    let a : m % 256 ≡ m = omega arith in
    let b : m / 256 ≡ 0 = omega arith in
    rw (a, b)

-- one byte, and those after it
next-byte : (n k v : ℕ) → v % (256 * k) % 256 ≡ v % 256 → v % (256 * k) / 256 ≡ v / 256 % k → bytes_of n (v / 256 % k) ≡ bytes_of n (v / 256)
    → bytes_of (suc n) (v % (256 * k)) ≡ bytes_of (suc n) v
unfolding bytes_of
next-byte n k v a b e = rw (a, b, e)

pub lowest-four : (v : ℕ) → bytes_of 4 (v % 4294967296) ≡ bytes_of 4 v
unfolding bytes_of
lowest-four v =
    next-byte 3 16777216 v (omega arith) (omega arith)
    (next-byte 2 65536 (v / 256) (omega arith) (omega arith)
    (next-byte 1 256 (v / 256 / 256) (omega arith) (omega arith)
    (next-byte 0 1 (v / 256 / 256 / 256) (omega arith) (omega arith) refl)))

-- ---- the whole record, and the trailer

pub row-stored : (l : List ℕ) (i : ℕ) (id start end : ℤ) (marks : ℕ) → marks < 256
    → sets (sets (sets (sets l i (bytes_of 8 (twos id))) (i + 8) (bytes_of 8 (twos start))) (i + 16) (bytes_of 8 (twos end))) (i + 24) (bytes_of 4 marks)
    ≡ sets l i (row_bytes (record { id = id; start = start; end = end; marks = marks }))
unfolding row_bytes
row-stored l i id start end marks h =
    let a : i + 8 + 8 ≡ i + 16 = omega arith in
    let b : i + 16 + 8 ≡ i + 24 = omega arith in
    rw (bytes-append 8 (twos id) _ l i, bytes-append 8 (twos start) _ _ (i + 8), a, bytes-append 8 (twos end) _ _ (i + 16), b, byte-bytes marks h)

-- the four stores as the calls give them: a signed number is passed by its bits
module _ (id start end : ℤ) (f : SFits w64 id) (g : SFits w64 start) (k : SFits w64 end) (marks : ℕ) (h : marks < 256) (i : ℕ) (l₀ l₁ l₂ l₃ l₄ : List ℕ) where
  pub row-steps : l₁ ≡ sets l₀ i (bytes_of 8 (twos (to_z w64 (of_z w64 id)))) → l₂ ≡ sets l₁ (i + 8) (bytes_of 8 (twos (to_z w64 (of_z w64 start))))
      → l₃ ≡ sets l₂ (i + 16) (bytes_of 8 (twos (to_z w64 (of_z w64 end)))) → l₄ ≡ sets l₃ (i + 24) (bytes_of 4 marks)
      → l₄ ≡ sets l₀ i (row_bytes (record { id = id; start = start; end = end; marks = marks }))
  row-steps a b c d = rw (d, c, b, a, to_z-of_z f, to_z-of_z g, to_z-of_z k) (row-stored l₀ i id start end marks h)

pub trailer-stored : (l : List ℕ) (i count : ℕ)
    → sets (sets (sets (sets l i (bytes_of 2 28)) (i + 2) (bytes_of 2 written_version)) (i + 4) (bytes_of 4 (count % 4294967296))) (i + 8) (bytes_of 4 (28 * count % 4294967296))
    ≡ sets l i (trailer_bytes written_version count)
unfolding trailer_bytes
trailer-stored l i count =
    let a : i + 2 + 2 ≡ i + 4 = omega arith in
    let b : i + 4 + 4 ≡ i + 8 = omega arith in
    rw (
      bytes-append 2 28 _ l i,
      bytes-append 2 written_version _ _ (i + 2),
      a,
      bytes-append 4 count _ _ (i + 4),
      b,
      lowest-four count,
      lowest-four (28 * count),
    )

module _ (count i : ℕ) (l₀ l₁ l₂ l₃ l₄ : List ℕ) where
  pub trailer-steps : l₁ ≡ sets l₀ i (bytes_of 2 28) → l₂ ≡ sets l₁ (i + 2) (bytes_of 2 written_version) → l₃ ≡ sets l₂ (i + 4) (bytes_of 4 (count % 4294967296))
      → l₄ ≡ sets l₃ (i + 8) (bytes_of 4 (28 * count % 4294967296)) → l₄ ≡ sets l₀ i (trailer_bytes written_version count)
  trailer-steps a b c d = rw (d, c, b, a) (trailer-stored l₀ i count)
