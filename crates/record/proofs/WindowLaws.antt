-- Seconds from 1600 by the parts of a number.
use Prim.Native.Nat.{ℕ, suc, ◌+◌, ◌-◌}
use mathlib.Core.Bool.{Bool, true, false, cond}
use mathlib.Core.Path.{◌≡◌, refl}
use native.Mathlib.Omega.{arith}
use borrow.Author.Tests.{ltb-true}
use lib.Dec.{ltb}
use lib.IntN.{ℤ, pos, negsuc, sub_ℕ}
use Rattle.signed.specs.Parts.{pos_part, neg_part}
use Rattle.call_definitions.specs.Window.{epoch, since1600}

-- a - b, or 0 where b is larger
positive-difference : (a b : ℕ) → a - b ≡ pos_part (sub_ℕ a b)
positive-difference a b = by (ltb a b) refl
  where
    by : (t : Bool) → ltb a b ≡ t → a - b ≡ pos_part (cond t (negsuc (b - suc a)) (pos (a - b)))
    by true e = omega (arith, ltb-true a b e)
    by false e = refl

pub since-parts : (t : ℤ) → pos_part t + epoch - neg_part t ≡ since1600 t
unfolding since1600
since-parts (pos n) = omega arith
since-parts (negsuc n) = rw (← positive-difference epoch (suc n)) (omega arith)
