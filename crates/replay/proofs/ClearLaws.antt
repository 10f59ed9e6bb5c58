-- Zeros, as the definition and the library say them.
use Prim.Native.Nat.{ℕ, zero, suc, ◌+◌, ◌<◌}
use mathlib.Core.List.{List, ◌∷◌}
use mathlib.Core.Path.{◌≡◌, refl, sym, ap, ◌∙◌}
use native.Mathlib.Omega.{arith}
use lib.IntN.{ℤ, pos}
use lib.ListN.{length, set, take, replicate}
use lib.Seq.{take_all}
use Rattle.std.proofs.lemmas.List.{take_more_set, replicate_more}
use Rattle.sheet.specs.Runs.{tabulate}

pub zeros-are : (k n : ℕ) → replicate n (pos 0) ≡ tabulate (λ i. pos 0) k n
unfolding tabulate
zeros-are k zero = refl
zeros-are k (suc n) = ap (λ (l : List ℤ). pos 0 ∷ l) (zeros-are (suc k) n)

-- a turn of the loop that writes them
pub clear_turn : (p : List ℤ) (i : ℕ) → i < length p → take i p ≡ replicate i (pos 0) → take (i + 1) (set p i (pos 0)) ≡ replicate (i + 1) (pos 0)
clear_turn p i h e = take_more_set p i (pos 0) h ∙ (rw e (replicate_more i (pos 0)))

pub clear_done : (p : List ℤ) (i n : ℕ) → length p ≡ n → i ≡ n → take i p ≡ replicate i (pos 0) → p ≡ tabulate (λ i. pos 0) 0 n
clear_done p i n s d e = sym (take_all i p (omega (arith, s, d))) ∙ (e ∙ (rw d (zeros-are 0 n)))

pub ruleset cleared = (clear_turn, clear_done)
