-- Records with nothing wrong in them: one turn of the pass, and that none of 38 to 40 applies.
use Prim.Native.Nat.{ℕ, zero, suc, ◌+◌, ◌*◌, ◌-◌, ◌<◌, ◌≤◌}
use mathlib.Core.Bool.{Bool, true, false, ◌&&◌}
use mathlib.Core.List.{List}
use mathlib.Core.Path.{◌≡◌, refl, ◌∙◌}
use native.Mathlib.Nat.{add-zero, zero-add}
use native.Mathlib.Numerals.{sub-one}
use native.Mathlib.Omega.{arith}
use lib.ListN.{length}
use borrow.Author.Tests.{leb-true, le-leb, eq-eqb}
use Rattle.little_endian.specs.Bytes.{number_at}
use Rattle.little_endian.proofs.ReadLaws.{number-join}
use Rattle.rule.proofs.Bools.{left, right}
use Rattle.sheet.specs.Runs.{every}
use Rattle.sheet.specs.Records.{marks_at, zeros_at}
use Rattle.sheet.specs.Reading.{rises_at, marked_at, clear_at, fault_in_rows}
use Rattle.sheet_reader.specs.Inner.Good.{sound_at, good_from}

-- ---- one pass

-- a record that is not the last
abbrev pub pair_at : ℕ → List ℕ → ℕ → Bool
pair_at most s k = rises_at s k && sound_at most s k

four : (a b c d : Bool) → a && (b && (c && d)) ≡ ((a && b) && c) && d
four true true c d = refl
four true false c d = refl
four false b c d = refl

-- all but the last, and the last
pub good-pairs : (most : ℕ) (s : List ℕ) (k n : ℕ) → good_from most s k (suc n) ≡ every (pair_at most s) k n && sound_at most s (k + n)
unfolding good_from every
good-pairs most s k zero = rw (add-zero k) refl
good-pairs most s k (suc n) =
    let e : suc k + n ≡ k + suc n = omega arith in
    rw (good-pairs most s (suc k) n, e) (four (rises_at s k) (sound_at most s k) (every (pair_at most s) (suc k) n) (sound_at most s (k + suc n)))

pub good-last : (most : ℕ) (s : List ℕ) (n : ℕ) → (n ≡ 0 → ⊥) → good_from most s 0 n ≡ every (pair_at most s) 0 (n - 1) && sound_at most s (n - 1)
good-last most s zero h = absurd (h refl)
good-last most s (suc n) h = rw sub-one (good-pairs most s 0 n ∙ rw (zero-add n) refl)

pub good-none : (most : ℕ) (s : List ℕ) (n : ℕ) → n ≡ 0 → good_from most s 0 n ≡ true
unfolding good_from
good-none most s n h = rw h refl

-- ---- nothing is wrong

module _ (most : ℕ) (small : most < 256) (s : List ℕ) where
  -- a record that is sound has marks that are allowed, and zeros
  sound-is : (k : ℕ) → 28 * k + 28 ≤ length s → sound_at most s k ≡ true → (marked_at most s k ≡ true) × (clear_at s k ≡ true)
  unfolding marks_at zeros_at
  sound-is k h t =
      let join = number-join 1 3 (28 * k + 24) s (omega arith) in
      let e : 28 * k + 24 + 1 ≡ 28 * k + 25 = omega arith in
      let both = rw e at join in
      let few = leb-true (number_at 4 (28 * k + 24) s) most t in
      (le-leb (number_at 1 (28 * k + 24) s) most (omega (arith, both, few, small)), eq-eqb (number_at 3 (28 * k + 25) s) 0 (omega (arith, both, few, small)))

  pub good-rises : (k n : ℕ) → good_from most s k n ≡ true → every (rises_at s) k (n - 1) ≡ true
  unfolding good_from every
  good-rises k zero g = refl
  good-rises k (suc zero) g = refl
  good-rises k (suc (suc n)) g =
      let more = good-rises (suc k) (suc n) (right (sound_at most s k) _ (right (rises_at s k) _ g)) in
      rw (sub-one, left (rises_at s k) _ g) (rw sub-one at more)

  pub good-sound : (k n : ℕ) → 28 * (k + n) ≤ length s → good_from most s k n ≡ true → (every (marked_at most s) k n ≡ true) × (every (clear_at s) k n ≡ true)
  unfolding good_from every
  good-sound k zero h g = (refl, refl)
  good-sound k (suc zero) h g = let a = sound-is k (omega arith) g in (rw a.0, rw a.1)
  good-sound k (suc (suc n)) h g =
      let a = sound-is k (omega arith) (left (sound_at most s k) _ (right (rises_at s k) _ g)) in
      let b = good-sound (suc k) (suc n) (omega arith) (right (sound_at most s k) _ (right (rises_at s k) _ g)) in
      (rw a.0 b.0, rw a.1 b.1)

  pub good-rows : (n : ℕ) → 28 * n ≤ length s → good_from most s 0 n ≡ true → 0 ≡ fault_in_rows s most n
  unfolding fault_in_rows
  good-rows n h g = let a = good-sound 0 n (omega arith) g in rw (good-rises 0 n g, a.0, a.1)
