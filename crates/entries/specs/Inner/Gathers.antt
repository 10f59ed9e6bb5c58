-- What the gathering of entries leaves.
use Rattle.std.specs.Prelude.{if◌then◌else◌, ℕ, ◌≡◌, List, ltb, ℤ, length, take}
use Rattle.std.proofs.lemmas.List.Edits.{sets}
use Rattle.entries.specs.declared.Transition.{Transition}
use Rattle.entries.specs.Gather.{instants_of, offsets_of}

unfoldable pub lesser : ℕ → ℕ → ℕ
lesser a b = if ltb b a then b else a

-- "At most 1,024 entries": one more is as invalid as any number more.
unfoldable pub gathered : List Transition → List Transition
gathered entries = take 1025 entries

-- The first n places of both runs have the numbers of the gathered entries; after them each run is as it was.
pub record Gathers (entries : List Transition) (instants offsets : List ℤ) (n : ℕ) (instants' offsets' : List ℤ) : Type 0 where
  pub number : n ≡ length (gathered entries)
  pub instants_are : instants' ≡ sets instants 0 (instants_of (gathered entries))
  pub offsets_are : offsets' ≡ sets offsets 0 (offsets_of (gathered entries))
