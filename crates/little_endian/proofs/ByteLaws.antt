-- The bytes of a number, and the number of its bytes.
use Prim.Native.Nat.{ℕ, zero, suc, ◌+◌, ◌-◌, ◌/◌, ◌%◌, ◌<◌, ◌^◌}
use mathlib.Core.List.{List, ◌++◌}
use mathlib.Core.Path.{◌≡◌, refl, ap}
use native.Mathlib.Nat.{pow-succ'}
use native.Mathlib.Numerals.{add-one, sub-one}
use native.Mathlib.Omega.{arith}
use borrow.Author.Tests.{lt-ltb, le-ltb}
use lib.IntN.{ℤ, pos, negsuc}
use lib.ListN.{length, set}
use lib.Seq.{sets, take_at, drop_at}
use mir.Syntax.{w64}
use mir.Val.{SFits}
use Rattle.little_endian.specs.Bytes.{bytes_of, twos, value_of, number_at, signed_of}

-- one byte stored, with those after it still to be
pub sets_more : (l : List ℕ) (i n v : ℕ) → 0 < n → sets l i (bytes_of n v) ≡ sets (set l i (v % 256)) (i + 1) (bytes_of (n - 1) (v / 256))
unfolding bytes_of
sets_more l i zero v h = absurd (omega arith)
sets_more l i (suc n) v h = rw (add-one, sub-one)

pub bytes-length : (n v : ℕ) → length (bytes_of n v) ≡ n
unfolding bytes_of
bytes-length zero v = refl
bytes-length (suc n) v = ap suc (bytes-length n (v / 256))

-- ---- no two numbers of n bytes have the same bytes

below : (n v : ℕ) → v < 256 ^ suc n → v / 256 < 256 ^ n
below n v h = let p = pow-succ' 256 n in omega arith

pub bytes-value : (n v : ℕ) → v < 256 ^ n → value_of (bytes_of n v) ≡ v
unfolding bytes_of value_of
bytes-value zero v h = omega arith
bytes-value (suc n) v h = let e = bytes-value n (v / 256) (below n v h) in omega arith

-- ---- the two's complement and back

pub signed-twos : (z : ℤ) → SFits w64 z → signed_of (twos z) ≡ z
unfolding signed_of twos
signed-twos (pos n) f = rw (lt-ltb n (2 ^ 63) f.sfits)
signed-twos (negsuc k) f =
    let h = f.sfits in
    let e : 2 ^ 64 - 1 - (2 ^ 64 - suc k) ≡ k = omega arith in
    rw (le-ltb (2 ^ 64 - suc k) (2 ^ 63) (omega arith), e)

pub twos_small : (z : ℤ) → SFits w64 z → twos z < 256 ^ 8
unfolding twos
twos_small (pos n) f = let h = f.sfits in omega arith
twos_small (negsuc k) f = let h = f.sfits in omega arith

-- ---- a number that was written is read

pub field_at : (n v : ℕ) (p q : List ℕ) (i : ℕ) → length p ≡ i → v < 256 ^ n → number_at n i (p ++ (bytes_of n v ++ q)) ≡ v
unfolding number_at
field_at n v p q i h b = rw (drop_at p (bytes_of n v ++ q) i h, take_at (bytes_of n v) q n (bytes-length n v)) (bytes-value n v b)
