-- What a sheet that the reader accepts is, and that such a sheet is accepted.
use Rattle.std.specs.Prelude.{if◌then◌else◌}
use Prim.Native.Nat.{ℕ, ◌+◌, ◌*◌, ◌-◌, ◌<◌, ◌≤◌}
use mathlib.Core.Bool.{Bool, true, false, not, ◌&&◌}
use mathlib.Core.List.{List}
use mathlib.Core.Path.{◌≡◌, refl}
use native.Mathlib.Omega.{arith}
use lib.Dec.{ltb, eqb}
use lib.ListN.{length}
use borrow.Author.Tests.{ltb-false, le-ltb, eqb-true, eq-eqb}
use Rattle.rule.proofs.Bools.{left, right}
use Rattle.sheet.specs.Runs.{every}
use Rattle.sheet.specs.Reading.{before, size_of, version_of, count_of, distance_of, known, most_marks, rises_at, marked_at, clear_at, fault_in_rows, fault_of}

pub record Accepted (s : List ℕ) : Type 0 where
  pub long : 12 ≤ length s
  pub version : known (version_of s) ≡ true
  pub size : size_of s ≡ 28
  pub distance : distance_of s ≡ 28 * count_of s
  pub place : distance_of s ≡ before s
  pub rising : every (rises_at s) 0 (count_of s - 1) ≡ true
  pub marked : every (marked_at (most_marks (version_of s)) s) 0 (count_of s) ≡ true
  pub clear : every (clear_at s) 0 (count_of s) ≡ true

-- where the answer is 0, a test that refuses has not done so
pub goes_on : (t : Bool) (x m : ℕ) → 0 < m → (if not t then m else x) ≡ 0 → (t ≡ true) × (x ≡ 0)
goes_on true x m h e = (refl, e)
goes_on false x m h e = absurd (omega arith)

pub long-enough : (t : Bool) (x m : ℕ) → 0 < m → (if t then m else x) ≡ 0 → (t ≡ false) × (x ≡ 0)
long-enough false x m h e = (refl, e)
long-enough true x m h e = absurd (omega arith)

pub accepted-is : (s : List ℕ) → fault_of s ≡ 0 → Accepted s
unfolding fault_of fault_in_rows
accepted-is s e =
    let a = long-enough (ltb (length s) 12) _ 34 (omega arith) e in
    let b = goes_on (known (version_of s)) _ 35 (omega arith) a.1 in
    let c = goes_on (eqb (size_of s) 28) _ 36 (omega arith) b.1 in
    let d = goes_on (eqb (distance_of s) (28 * count_of s) && eqb (distance_of s) (before s)) _ 37 (omega arith) c.1 in
    let f = goes_on (every (rises_at s) 0 (count_of s - 1)) _ 38 (omega arith) d.1 in
    let g = goes_on (every (marked_at (most_marks (version_of s)) s) 0 (count_of s)) _ 39 (omega arith) f.1 in
    let h = goes_on (every (clear_at s) 0 (count_of s)) 0 40 (omega arith) g.1 in
    record {
      long = ltb-false (length s) 12 a.0;
      version = b.0;
      size = eqb-true (size_of s) 28 c.0;
      distance = eqb-true (distance_of s) (28 * count_of s) (left _ _ d.0);
      place = eqb-true (distance_of s) (before s) (right (eqb (distance_of s) (28 * count_of s)) _ d.0);
      rising = f.0;
      marked = g.0;
      clear = h.0;
    }

pub is-accepted : (s : List ℕ) → Accepted s → fault_of s ≡ 0
unfolding fault_of fault_in_rows
is-accepted s a =
    rw (
      le-ltb (length s) 12 a.long,
      a.version,
      eq-eqb _ _ a.size,
      eq-eqb _ _ a.distance,
      eq-eqb (distance_of s) (before s) a.place,
      a.rising,
      a.marked,
      a.clear,
    )

-- the records fill the bytes before the trailer
pub rows_before : (s : List ℕ) → fault_of s ≡ 0 → 28 * count_of s + 12 ≡ length s
rows_before s e =
    let a = accepted-is s e in
    omega (arith, a.long, a.distance, a.place)
