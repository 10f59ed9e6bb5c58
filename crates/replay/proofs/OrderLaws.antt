-- What `is_sorted_by` says of a log.
use Prim.Native.Nat.{ℕ, zero, suc, ◌<◌}
use mathlib.Core.List.{List, [], ◌∷◌}
use mathlib.Core.Bool.{Bool, true, false, ◌&&◌}
use mathlib.Core.Path.{◌≡◌, refl, sym}
use native.Mathlib.Omega.{arith}
use native.Mathlib.Numerals.{add-one}
use lib.IntN.{ℤ, pos}
use lib.Signed.{le_z}
use lib.ListN.{length, get_or}
use Rattle.std.specs.List.{IsAllAdjacentAnswer}
use Rattle.weeks.specs.Replay.{ordered}

rises : (log : List ℤ) → ((k : ℕ) → suc k < length log → le_z (get_or log k (pos 0)) (get_or log (suc k) (pos 0)) ≡ true) → true ≡ ordered log
unfolding ordered
rises [] h = refl
rises (t ∷ []) h = refl
rises (t ∷ u ∷ log) h =
    let first : le_z t u ≡ true = h 0 (omega arith) in
    rw first (rises (u ∷ log) (λ k g. h (suc k) (omega arith)))

falls : (log : List ℤ) (k : ℕ) → suc k < length log → le_z (get_or log k (pos 0)) (get_or log (suc k) (pos 0)) ≡ false → false ≡ ordered log
unfolding ordered
falls [] k h e = absurd (omega arith)
falls (t ∷ []) k h e = absurd (omega arith)
falls (t ∷ u ∷ log) zero h e = rw e
falls (t ∷ u ∷ log) (suc k) h e = rw (← falls (u ∷ log) k (omega arith) e) (elim (le_z t u) as (λ b. false ≡ b && false) [ true ↦ refl | false ↦ refl ])

pub ordered-is : (log : List ℤ) (r : Bool) → IsAllAdjacentAnswer (λ t u b. b ≡ le_z t u) log r → r ≡ ordered log
ordered-is log true h = rises log (λ k g. sym (let e = h k (pos 0) (omega (arith, g)) in rw (add-one k) at e))
ordered-is log false (k, g, h) = falls log k (omega (arith, g)) (sym (let e = h (pos 0) in rw (add-one k) at e))
