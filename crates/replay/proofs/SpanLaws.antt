-- One turn of the loops over spans, places and their sweep.
use Rattle.std.specs.Prelude.{if◌then◌else◌}
use Prim.Native.Nat.{ℕ, zero, suc, ◌+◌, ◌-◌, ◌<◌, ◌≤◌}
use mathlib.Core.List.{List, [], ◌∷◌, ◌++◌, append-nil}
use mathlib.Core.Bool.{Bool, true, false}
use mathlib.Core.Path.{◌≡◌}
use native.Mathlib.Omega.{arith}
use native.Mathlib.Numerals.{add-one}
use lib.Dec.{ltb}
use lib.IntN.{ℤ, pos, negsuc}
use lib.ListN.{length, get_or, set, take, drop, drop_of_length-le}
use lib.Seq.{take-suc-set, drop-set-lt, drop-cons, append_snoc, take_all}
use Rattle.signed.specs.Parts.{pos_part}
use Rattle.sheet.specs.Runs.{tabulate}
use Rattle.weeks.specs.Inner.Marks.{Span, raise, raise_all, larger, sweep}
use Rattle.weeks.specs.Inner.Places.{Below}

-- a turn of the loop over the records
pub raise-turn : (f : ℕ → Span) (k n : ℕ) (p : List ℤ) → k < n → raise_all (tabulate f (k + 1) (n - (k + 1))) (raise p (f k)) ≡ raise_all (tabulate f k (n - k)) p
unfolding raise_all tabulate
raise-turn f k n p h = let m : n - k ≡ suc (n - suc k) = omega arith in rw (add-one k, m)

pub raise-done : (f : ℕ → Span) (k n : ℕ) (p : List ℤ) → n ≤ k → raise_all (tabulate f k (n - k)) p ≡ p
unfolding raise_all tabulate
raise-done f k n p h = let m : n - k ≡ 0 = omega arith in rw m

-- a turn of the sweep: what stands before i is done
pub sweep-turn : (p : List ℤ) (r i : ℕ) → i < length p
    → take (i + 1) (set p i (if ltb i (larger r (pos_part (get_or p i (pos 0)))) then negsuc 0 else negsuc 1))
    ++ sweep (larger r (pos_part (get_or p i (pos 0)))) (i + 1) (drop (i + 1) (set p i (if ltb i (larger r (pos_part (get_or p i (pos 0)))) then negsuc 0 else negsuc 1)))
    ≡ take i p ++ sweep r i (drop i p)
unfolding sweep
sweep-turn p r i h =
    let v = if ltb i (larger r (pos_part (get_or p i (pos 0)))) then negsuc 0 else negsuc 1 in
    rw (add-one i, take-suc-set p i v h, drop-set-lt (suc i) p i v (omega arith), drop-cons p i (pos 0) h)
    (append_snoc (take i p) v (sweep (larger r (pos_part (get_or p i (pos 0)))) (suc i) (drop (suc i) p)))

pub sweep-done : (p : List ℤ) (r i : ℕ) → length p ≤ i → take i p ++ sweep r i (drop i p) ≡ p
unfolding sweep
sweep-done p r i h = rw (drop_of_length-le p {i = i} h, take_all i p h) (append-nil p)

-- the sweep leaves negative numbers
sign : (b : Bool) → pos_part (if b then negsuc 0 else negsuc 1) ≤ 0
sign true = omega arith
sign false = omega arith

pub sweep-below : (r i : ℕ) (p : List ℤ) → Below 0 (sweep r i p)
unfolding sweep
sweep-below r i [] k = omega arith
sweep-below r i (z ∷ zs) zero = sign (ltb i (larger r (pos_part z)))
sweep-below r i (z ∷ zs) (suc k) = sweep-below (larger r (pos_part z)) (suc i) zs k
