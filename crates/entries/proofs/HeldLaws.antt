-- What the runs hold once the entries are gathered: in their first places, the numbers of the first 1,025 entries.
use Prim.Native.Nat.{ℕ, ◌+◌, ◌≤◌}
use mathlib.Core.Path.{◌≡◌, ap, ◌∙◌, subst}
use mathlib.Core.List.{List, map, ◌++◌}
use native.Mathlib.Omega.{arith}
use lib.IntN.{ℤ}
use lib.ListN.{length, take, drop, length-map, length-take}
use lib.Seq.{sets, sets-eq, take-append_seam}
use Rattle.entries.specs.declared.Transition.{Transition}
use Rattle.entries.specs.Gather.{instants_of, offsets_of}
use Rattle.entries.specs.Inner.Gathers.{gathered, Gathers}

pub gathered-most : (ys : List Transition) → length (gathered ys) ≤ 1025
unfolding gathered
gathered-most ys = omega (arith, length-take 1025 ys)

-- a run whose first places were stored to
stored : (f : Transition → ℤ) (xs : List Transition) (l : List ℤ) → length xs ≤ length l → take (length xs) (sets l 0 (map f xs)) ≡ map f xs
stored f xs l h =
    ap (λ (r : List ℤ). take (length xs) r) (sets-eq (map f xs) l 0 (rw (length-map) (omega arith)))
    ∙ subst (λ (n : ℕ). take n (map f xs ++ drop (0 + length (map f xs)) l) ≡ map f xs) (length-map xs f) (take-append_seam (map f xs) (drop (0 + length (map f xs)) l))

module _ (ys : List Transition) (instants offsets : List ℤ) (n : ℕ) (instants' offsets' : List ℤ) (g : Gathers ys instants offsets n instants' offsets') where
  pub instants-held : 1025 ≤ length instants → take n instants' ≡ instants_of (gathered ys)
  unfolding instants_of
  instants-held h = rw (g.number, g.instants_are) (stored (λ e. e.instant) (gathered ys) instants (let m : length (gathered ys) ≤ 1025 = gathered-most ys in omega arith))

  pub offsets-held : 1025 ≤ length offsets → take n offsets' ≡ offsets_of (gathered ys)
  unfolding offsets_of
  offsets-held h = rw (g.number, g.offsets_are) (stored (λ e. e.offset) (gathered ys) offsets (let m : length (gathered ys) ≤ 1025 = gathered-most ys in omega arith))
