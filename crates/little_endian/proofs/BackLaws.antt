-- Bytes that were read are written again: the way back from a number to its bytes.
use Rattle.std.specs.Prelude.{if◌then◌else◌}
use Prim.Native.Nat.{ℕ, zero, suc, ◌+◌, ◌-◌, ◌*◌, ◌/◌, ◌%◌, ◌<◌, ◌≤◌, ◌^◌}
use mathlib.Core.Bool.{Bool, true, false}
use mathlib.Core.List.{List, [], ◌∷◌, ◌++◌}
use mathlib.Core.Path.{◌≡◌, refl, sym, ap, ◌∙◌}
use native.Mathlib.Nat.{pow-succ'}
use native.Mathlib.Omega.{arith}
use borrow.Author.Tests.{ltb-false}
use lib.Dec.{ltb}
use lib.IntN.{pos, negsuc}
use lib.ListN.{length, take, drop, length-drop}
use lib.Seq.{take-add, drop-drop, get_or-drop, length-take-le}
use Rattle.little_endian.specs.Bytes.{bytes_of, twos, value_of, number_at, signed_of, AllBytes}

-- ---- a run of bytes

value-below : (bs : List ℕ) → AllBytes bs → value_of bs < 256 ^ length bs
unfolding value_of
value-below [] h = omega arith
value-below (b ∷ bs) h =
    let p = pow-succ' 256 (length bs) in
    let e = value-below bs (λ k. h (suc k)) in
    let f = h 0 in
    omega arith

value-bytes : (bs : List ℕ) → AllBytes bs → bytes_of (length bs) (value_of bs) ≡ bs
unfolding bytes_of value_of
value-bytes [] h = refl
value-bytes (b ∷ bs) h =
    let f = h 0 in
    let low : (b + 256 * value_of bs) % 256 ≡ b = omega arith in
    let high : (b + 256 * value_of bs) / 256 ≡ value_of bs = omega arith in
    rw (low, high, value-bytes bs (λ k. h (suc k)))

-- ---- the two's complement of a signed number that was read

above : (v : ℕ) → twos (pos v) ≡ v
unfolding twos
above v = refl

under : (v k : ℕ) → v + suc k ≡ 2 ^ 64 → twos (negsuc k) ≡ v
unfolding twos
under v k h = omega arith

pub twos-signed : (v : ℕ) → v < 256 ^ 8 → twos (signed_of v) ≡ v
unfolding signed_of
twos-signed v h = by (ltb v (2 ^ 63)) refl
  where
    by : (t : Bool) → ltb v (2 ^ 63) ≡ t → twos (if t then pos v else negsuc (2 ^ 64 - 1 - v)) ≡ v
    by true e = above v
    by false e = let g = ltb-false v (2 ^ 63) e in under v (2 ^ 64 - 1 - v) (omega arith)

-- ---- a part of a list

take-bytes : (n : ℕ) (s : List ℕ) → AllBytes s → AllBytes (take n s)
take-bytes zero s b k = omega arith
take-bytes (suc n) [] b k = omega arith
take-bytes (suc n) (x ∷ s) b zero = b 0
take-bytes (suc n) (x ∷ s) b (suc k) = take-bytes n s (λ j. b (suc j)) k

part_bytes : (n i : ℕ) (s : List ℕ) → AllBytes s → AllBytes (take n (drop i s))
part_bytes n i s b = take-bytes n (drop i s) (λ k. rw (get_or-drop i s k 0) (b (i + k)))

pub part_length : (n i : ℕ) (s : List ℕ) → i + n ≤ length s → length (take n (drop i s)) ≡ n
part_length n i s h = length-take-le n (drop i s) (simp length-drop (omega arith))

-- two parts side by side
pub part_join : (m n i : ℕ) (s : List ℕ) → take m (drop i s) ++ take n (drop (i + m) s) ≡ take (m + n) (drop i s)
part_join m n i s = sym (take-add m n (drop i s) ∙ ap (λ (l : List ℕ). take m (drop i s) ++ take n l) (drop-drop m i s))

module _ (n i : ℕ) (s : List ℕ) (b : AllBytes s) (h : i + n ≤ length s) where
  -- the number of the n bytes at i has just these bytes
  pub number-bytes : bytes_of n (number_at n i s) ≡ take n (drop i s)
  unfolding number_at
  number-bytes =
      ap (λ (m : ℕ). bytes_of m (value_of (take n (drop i s)))) (sym (part_length n i s h)) ∙ value-bytes (take n (drop i s)) (part_bytes n i s b)

  pub number-below : number_at n i s < 256 ^ n
  unfolding number_at
  number-below = rw (part_length n i s h) at (value-below (take n (drop i s)) (part_bytes n i s b))
