-- The loop of `gather`: where it starts, one turn of it, and its end.
use Rattle.std.specs.Prelude.{if◌then◌else◌}
use Prim.Native.Nat.{ℕ, ◌+◌, ◌<◌, ◌≤◌}
use mathlib.Core.Bool.{Bool, true, false}
use mathlib.Core.Path.{◌≡◌, refl, sym, ap, ◌∙◌}
use mathlib.Core.List.{List, map}
use native.Mathlib.Numerals.{add-one}
use native.Mathlib.Omega.{arith}
use borrow.Author.Tests.{ltb-true, ltb-false}
use lib.Dec.{ltb}
use lib.IntN.{ℤ}
use lib.ListN.{length, get_or, set, take, drop, drop_of_length-le}
use lib.Seq.{sets, drop-cons, take_all, take-length, length-take-le}
use Rattle.entries.specs.declared.Transition.{Transition}
use Rattle.entries.specs.Inner.Gathers.{lesser, gathered}

pub lesser-le : (a b : ℕ) → lesser a b ≤ a
unfolding lesser
lesser-le a b = by (ltb b a) refl
  where
    by : (t : Bool) → ltb b a ≡ t → (if t then b else a) ≤ a
    by true e = let h : b < a = ltb-true b a e in omega arith
    by false e = omega arith

pub lesser-most : (a b : ℕ) → lesser a b ≤ b
unfolding lesser
lesser-most a b = by (ltb b a) refl
  where
    by : (t : Bool) → ltb b a ≡ t → (if t then b else a) ≤ b
    by true e = omega arith
    by false e = ltb-false b a e

-- So many turns take what the limit leaves of the entries.
pub take-lesser : (ys : List Transition) → take (lesser (length ys) 1025) ys ≡ gathered ys
unfolding lesser gathered
take-lesser ys = by (ltb 1025 (length ys)) refl
  where
    by : (b : Bool) → ltb 1025 (length ys) ≡ b → take (if b then 1025 else length ys) ys ≡ take 1025 ys
    by true e = refl
    by false e = take-length ys ∙ sym (take_all 1025 ys (ltb-false _ _ e))

pub lesser-number : (ys : List Transition) → lesser (length ys) 1025 ≡ length (gathered ys)
lesser-number ys = sym (length-take-le (lesser (length ys) 1025) ys (lesser-le (length ys) 1025)) ∙ ap length (take-lesser ys)

-- A place of the entries that count is a place of a run that has room for all that may count.
pub in-run : (i n room now : ℕ) (ys : List Transition) → n ≡ lesser (length ys) 1025 → i < length (take n ys) → now ≡ room → 1025 ≤ room → i < now
in-run i n room now ys e h same r =
    omega (arith, e, lesser-most (length ys) 1025, length-take-le n ys (rw e (lesser-le (length ys) 1025)), h, same, r)

-- A run after the stores that are left: from i on, one number of each entry from the i-th on.
abbrev pub stores : (Transition → ℤ) → List ℤ → ℕ → List Transition → List ℤ
stores f l i ys = sets l i (map f (drop i ys))

-- One of these stores is done.
pub stores-next : (f : Transition → ℤ) (l : List ℤ) (i : ℕ) (ys : List Transition) (d : Transition) → i < length ys
    → stores f (set l i (f (get_or ys i d))) (i + 1) ys ≡ stores f l i ys
stores-next f l i ys d h = rw (drop-cons ys i d h, add-one)

-- None is left at the end.
pub stores-end : (f : Transition → ℤ) (l : List ℤ) (i : ℕ) (ys : List Transition) → length ys ≤ i → stores f l i ys ≡ l
stores-end f l i ys h = rw (drop_of_length-le ys h)
