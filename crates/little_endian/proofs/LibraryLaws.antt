-- The library's bytes of a number, and its number of eight bytes, are those of the definitions.
use Rattle.std.specs.Prelude.{if◌then◌else◌, replicate}
use Rattle.std.proofs.Common.{◌≡◌, ℕ, zero, suc, ◌+◌, ◌-◌, ◌*◌, ◌/◌, ◌%◌, ◌<◌, ◌≤◌, ◌^◌, Bool, true, false, List, ◌++◌, length, get_or, take, drop, refl, sym, ap, ◌∙◌, arith, w64, ℤ, pos, negsuc}
use Rattle.std.proofs.Math.Nat.{div-div-eq-div-mul, pow-succ', mul_comm, zero-add}
use Rattle.std.proofs.Math.Numerals.{add-one}
use Rattle.std.proofs.lemmas.List.{append_assoc}
use Rattle.std.proofs.lemmas.List.Edits.{sets, sets-eq, paste_all}
use Rattle.std.proofs.lemmas.Slice.{put_mid-paste}
use Rattle.std.specs.Int.{byte_at, byte_worth, bytes_low_first, sum_through, from_le_bytes}
use borrow.Rule.Slice.PartMut.{put_mid}
use lib.Dec.{ltb}
use lib.ListN.{length-append, length-drop}
use lib.Seq.{take-length}
use lib.Signed.{mag}
use mir.Val.{SFits, of_z, to_z}
use Rattle.signed.proofs.Parts.{back, passed}
use Rattle.little_endian.specs.Bytes.{bytes_of, twos, value_of, number_at, signed_of, AllBytes}
use Rattle.little_endian.specs.Inner.Reads.{Reads}
use Rattle.little_endian.proofs.BackLaws.{part_length, number-below}
use Rattle.little_endian.proofs.ReadLaws.{number-join, number-one, value-append}

-- ---- to bytes

byte-is : (i n : ℕ) → byte_at i n ≡ n / 256 ^ i % 256
byte-is zero n = omega arith
byte-is (suc i) n = refl

shifted : (i n : ℕ) → n / 256 ^ i / 256 ≡ n / 256 ^ suc i
shifted i n = div-div-eq-div-mul n (256 ^ i) 256 ∙ ap (λ (m : ℕ). n / m) (mul_comm (256 ^ i) 256 ∙ sym (pow-succ' 256 i))

low-first : (k i n : ℕ) → bytes_low_first i k n ≡ bytes_of k (n / 256 ^ i)
unfolding bytes_of
low-first zero i n = refl
low-first (suc k) i n = rw (byte-is i n, low-first k (suc i) n, shifted i n)

-- from the lowest byte on
lowest : (k n : ℕ) → bytes_low_first 0 k n ≡ bytes_of k n
lowest k n = let e : n / 256 ^ 0 ≡ n = omega arith in low-first k 0 n ∙ ap (bytes_of k) e

-- the library's bytes, stored
pub stored : (n v at : ℕ) (l new bytes : List ℕ) → new ≡ sets l at bytes → bytes ≡ bytes_low_first 0 n v → new ≡ sets l at (bytes_of n v)
stored n v at l new bytes e f = e ∙ ap (λ (m : List ℕ). sets l at m) (f ∙ lowest n v)

pub twos-is : (z : ℤ) → of_z w64 z ≡ twos z
unfolding twos
twos-is (pos n) = refl
twos-is (negsuc k) = refl

-- the bytes of u, which is the two's complement of z as it is read back, stored
pub stored_twos : (z : ℤ) (u at : ℕ) (l new bytes : List ℕ) → SFits w64 z → new ≡ sets l at bytes → bytes ≡ bytes_low_first 0 8 u
    → u ≡ of_z w64 (to_z w64 (of_z w64 z)) → new ≡ sets l at (bytes_of 8 (twos z))
stored_twos z u at l new bytes f e g h = rw (← (passed (of_z w64) f h ∙ twos-is z)) (stored 8 u at l new bytes e g)

-- a part of a list that is written at once is as its bytes set one after the other
pub overwritten : (at n : ℕ) (l new bytes : List ℕ) → new ≡ bytes → n ≡ length bytes → at + n ≤ length l → put_mid at (at + n - at) l new ≡ sets l at bytes
overwritten at n l new bytes e f h =
    put_mid-paste at (at + n - at) l new bytes n e (omega arith) f
    ∙ paste_all l at bytes n f
    ∙ sym (append_assoc (take at l) bytes (drop (at + n) l))
    ∙ ap (λ (m : ℕ). take at l ++ bytes ++ drop (at + m) l) f
    ∙ sym (sets-eq bytes l at (omega arith))

-- ---- from bytes

sum-is : (k : ℕ) (bs : List ℕ) → k < length bs → sum_through (λ i. byte_worth i (get_or bs i 0)) k ≡ number_at (suc k) 0 bs
sum-is zero bs h = sym (number-one 0 bs h)
sum-is (suc k) bs h =
    let e = sum-is k bs (omega arith) in
    let o = number-one (suc k) bs h in
    let m = mul_comm (get_or bs (suc k) 0) (256 ^ suc k) in
    let j : number_at (suc k + 1) 0 bs ≡ number_at (suc k) 0 bs + 256 ^ suc k * number_at 1 (0 + suc k) bs = number-join (suc k) 1 0 bs (omega arith) in
    let j' = rw (zero-add (suc k), add-one (suc k)) at j in
    rw (e, m, sym o) (sym j')

zeros : (n k : ℕ) → value_of (drop n (replicate k 0)) ≡ 0
unfolding value_of
zeros zero zero = refl
zeros zero (suc k) = rw (zeros zero k) refl
zeros (suc n) zero = refl
zeros (suc n) (suc k) = zeros n k

module _ (n i : ℕ) (s bytes : List ℕ) (w : n ≤ 8) (h : i + n ≤ length s) (b : AllBytes s) (e : bytes ≡ take n (drop i s) ++ drop n (replicate 8 0)) where
  eight : length bytes ≡ 8
  eight =
      let d : length (drop n (replicate {A = ℕ} 8 0)) ≡ 8 - n = length-drop n (replicate 8 0) in
      rw (e, length-append (take n (drop i s)) (drop n (replicate 8 0)), part_length n i s h, d) (omega arith)

  same-number : number_at 8 0 bytes ≡ number_at n i s
  unfolding number_at
  same-number =
      rw (sym eight, take-length bytes, e, value-append (take n (drop i s)) (drop n (replicate 8 0)), zeros n 8) (omega arith)

  -- eight bytes, of which the last are zeros
  pub padded : (r : ℕ) → r ≡ from_le_bytes w64 bytes → Reads n i s r
  padded r f =
      let g = f ∙ sum-is 7 bytes (rw eight (omega arith)) ∙ same-number in
      record { is = g; within = rw g (number-below n i s b h) }

pub signed-is : (v : ℕ) → v < 2 ^ 64 → to_z w64 v ≡ signed_of v
unfolding signed_of
signed-is v h = by (ltb v (2 ^ 63)) refl
  where
    by : (t : Bool) → ltb v (2 ^ 63) ≡ t → to_z w64 v ≡ (if t then pos v else negsuc (2 ^ 64 - 1 - v))
    by true e = rw e refl
    by false e = let g : 2 ^ 64 - suc v ≡ 2 ^ 64 - 1 - v = omega arith in rw (e, g) refl

-- the signed number of v, as it is read back from its bits
pub signed_back : (v n : ℕ) (z : ℤ) → v < 2 ^ 64 → v ≡ n → mag z < 2 ^ 63 → z ≡ to_z w64 v → to_z w64 (of_z w64 z) ≡ signed_of n
signed_back v n z h e m f = back z m ∙ f ∙ signed-is v h ∙ ap signed_of e
