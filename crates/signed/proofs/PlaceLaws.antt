-- A signed place by the parts of its number.
use Rattle.std.specs.Prelude.{if◌then◌else◌}
use Prim.Native.Nat.{ℕ, ◌-◌, ◌<◌, ◌≤◌}
use mathlib.Core.Path.{◌≡◌, refl}
use native.Mathlib.Omega.{arith}
use lib.IntN.{ℤ, pos, negsuc}
use mathlib.Core.Bool.{Bool, true, false}
use lib.Dec.{leb}
use borrow.Author.Tests.{le-leb, lt-leb, leb-true}
use Rattle.signed.specs.Parts.{pos_part, neg_part}
use Rattle.signed.specs.Place.{place_of}

-- a place that counts from the end
pub place-back : (z : ℤ) (n : ℕ) → 0 < neg_part z → n - (neg_part z - 1) ≡ place_of z n
unfolding place_of
place-back (pos k) n p = absurd (omega arith)
place-back (negsuc k) n p = omega arith

-- more places on than there are
pub place_after : (z : ℤ) (n : ℕ) → neg_part z ≤ 0 → n < pos_part z → 0 ≡ place_of z n
unfolding place_of
place_after (pos k) n q h = rw (lt-leb k n h)
place_after (negsuc k) n q h = absurd (omega arith)

pub place-on : (z : ℤ) (n : ℕ) → neg_part z ≤ 0 → pos_part z ≤ n → pos_part z ≡ place_of z n
unfolding place_of
place-on (pos k) n q h = rw (le-leb k n h)
place-on (negsuc k) n q h = absurd (omega arith)

-- a place is one of the n
pub place-most : (z : ℤ) (n : ℕ) → place_of z n ≤ n
unfolding place_of
place-most (pos k) n = by (leb k n) refl
  where
    by : (t : Bool) → leb k n ≡ t → (if t then k else 0) ≤ n
    by true e = leb-true k n e
    by false e = omega arith
place-most (negsuc k) n = omega arith
