-- Laws of decimal numbers: one digit more, no more digits, and that a number only grows.
use Rattle.std.specs.Prelude.{if◌then◌else◌}
use Prim.Native.Nat.{ℕ, suc, ◌+◌, ◌-◌, ◌*◌, ◌≤◌, ◌<◌}
use mathlib.Core.Bool.{Bool, true, false}
use mathlib.Core.List.{List, [], ◌∷◌}
use mathlib.Core.Path.{◌≡◌, refl}
use native.Mathlib.Numerals.{add-one}
use native.Mathlib.Omega.{arith}
use lib.ListN.{length, get_or, drop}
use lib.Seq.{drop-cons}
use Rattle.json_text.specs.Bytes.{is_digit}
use Rattle.json_tree.specs.Integers.{decimal, largest}
use Rattle.json_tree.specs.Inner.Capped.{Capped}

pub decimal-more : (v : ℕ) (s : List ℕ) (i : ℕ) → i < length s → is_digit (get_or s i 0) ≡ true
    → decimal (v * 10 + (get_or s i 0 - 0x30)) (drop (i + 1) s) ≡ decimal v (drop i s)
unfolding decimal
decimal-more v s i h e = rw (drop-cons s i 0 h, e, add-one)

pub decimal-stop : (v : ℕ) (s : List ℕ) (i : ℕ) → is_digit (get_or s i 0) ≡ false → decimal v (drop i s) ≡ v
unfolding decimal
decimal-stop v [] ℕ.zero e = refl
decimal-stop v [] (suc i) e = refl
decimal-stop v (b ∷ s) ℕ.zero e = rw e
decimal-stop v (b ∷ s) (suc i) e = decimal-stop v s i e

pub decimal-grows : (v : ℕ) (bs : List ℕ) → v ≤ decimal v bs
unfolding decimal
decimal-grows v [] = omega arith
decimal-grows v (b ∷ bs) = go (is_digit b) (decimal-grows (v * 10 + (b - 0x30)) bs)
  where
    go : (c : Bool) → v * 10 + (b - 0x30) ≤ decimal (v * 10 + (b - 0x30)) bs → v ≤ (if c then decimal (v * 10 + (b - 0x30)) bs else v)
    go true h = omega arith
    go false h = omega arith

-- A number that is not larger than the largest is exact; one that is larger shows that the whole is.
pub capped : (v : ℕ) (bs : List ℕ) (d : ℕ) → decimal v bs ≡ d → largest < v → Capped d v
capped v bs d e h = let g : v ≤ d = rw e at (decimal-grows v bs) in record { small = λ p. absurd (omega arith); large = λ p. omega arith }

pub exact : (v d : ℕ) → v ≡ d → Capped d v
exact v d e = record { small = λ p. e; large = λ p. omega arith }
