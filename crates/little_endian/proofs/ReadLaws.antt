-- Bytes that are read: a number by its lower and its higher bytes, and the range of a two's complement.
use Rattle.std.specs.Prelude.{if◌then◌else◌}
use Prim.Native.Nat.{ℕ, zero, suc, ◌+◌, ◌-◌, ◌*◌, ◌<◌, ◌≤◌, ◌^◌}
use mathlib.Core.Bool.{Bool, true, false}
use mathlib.Core.List.{List, [], ◌∷◌, ◌++◌}
use mathlib.Core.Path.{◌≡◌, refl, ap}
use native.Mathlib.Nat.{pow-succ', mul_assoc}
use native.Mathlib.Omega.{arith}
use borrow.Author.Tests.{ltb-true, ltb-false}
use lib.Dec.{ltb}
use lib.IntN.{pos, negsuc}
use lib.ListN.{length, get_or, take, drop, length-drop}
use lib.Seq.{take-add, take-take, drop-drop, drop-cons, length-take-le}
use mir.Syntax.{w64}
use mir.Val.{SFits}
use Rattle.little_endian.specs.Bytes.{value_of, number_at, signed_of}

-- ---- a number by its lower and its higher bytes

pub value-append : (a b : List ℕ) → value_of (a ++ b) ≡ value_of a + 256 ^ length a * value_of b
unfolding value_of
value-append [] b = omega arith
value-append (x ∷ a) b =
    let e = value-append a b in
    let p = pow-succ' 256 (length a) in
    let q : 256 ^ suc (length a) * value_of b ≡ 256 * (256 ^ length a * value_of b) = rw p (mul_assoc 256 (256 ^ length a) (value_of b)) in
    omega arith

pub number-join : (m n i : ℕ) (s : List ℕ) → i + m ≤ length s → number_at (m + n) i s ≡ number_at m i s + 256 ^ m * number_at n (i + m) s
unfolding number_at
number-join m n i s h =
    let l = length-take-le m (drop i s) (simp length-drop (omega arith)) in
    rw (take-add m n (drop i s), drop-drop m i s, value-append (take m (drop i s)) (take n (drop (i + m) s)), l)

pub number-one : (i : ℕ) (s : List ℕ) → i < length s → number_at 1 i s ≡ get_or s i 0
unfolding number_at value_of
number-one i s h = rw (drop-cons s i 0 h) (omega arith)

-- ---- the number of which eight bytes are the two's complement

pub signed-fits : (v : ℕ) → SFits w64 (signed_of v)
unfolding signed_of
signed-fits v = by (ltb v (2 ^ 63)) refl
  where
    by : (t : Bool) → ltb v (2 ^ 63) ≡ t → SFits w64 (if t then pos v else negsuc (2 ^ 64 - 1 - v))
    by true e = record { sfits = ltb-true v (2 ^ 63) e }
    by false e = record { sfits = omega (arith, ltb-false v (2 ^ 63) e) }

-- ---- a number in the beginning of a list

part-take : (n i m : ℕ) (s : List ℕ) → i + n ≤ m → take n (drop i (take m s)) ≡ take n (drop i s)
part-take n zero m s h = take-take n m s (omega arith)
part-take n (suc i) zero s h = absurd (omega arith)
part-take n (suc i) (suc m) [] h = refl
part-take n (suc i) (suc m) (x ∷ s) h = part-take n i m s (omega arith)

pub number-take : (n i m : ℕ) (s : List ℕ) → i + n ≤ m → number_at n i (take m s) ≡ number_at n i s
unfolding number_at
number-take n i m s h = ap value_of (part-take n i m s h)
