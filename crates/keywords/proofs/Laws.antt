-- A law of comparing the bytes of a string with those of a word: slices are compared as the definition does.
use Rattle.std.specs.Prelude.{if◌then◌else◌, ◌&&◌}
use Rattle.std.specs.Str.{bytes_eq}
use Prim.Native.Nat.{ℕ}
use mathlib.Core.Bool.{Bool, true, false}
use mathlib.Core.List.{List, [], ◌∷◌}
use mathlib.Core.Path.{◌≡◌, refl}
use lib.Dec.{eqb}
use Rattle.json_walk.specs.Strings.{same}

pub same_slice : (s t : List ℕ) → bytes_eq s t ≡ same s t
unfolding same
same_slice [] [] = refl
same_slice [] (b ∷ t) = refl
same_slice (a ∷ s) [] = refl
same_slice (a ∷ s) (b ∷ t) = by (same_slice s t) (eqb a b)
  where
    by : bytes_eq s t ≡ same s t → (c : Bool) → (c && bytes_eq s t) ≡ (if c then same s t else false)
    by ih true = ih
    by ih false = refl
