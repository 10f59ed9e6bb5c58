-- The mark at a place of a table, and what the marks need of it: terms of the contracts of the search and of other inner functions.
use Rattle.std.specs.Prelude.{ℕ, ◌^◌, true, ◌≡◌, List, ◌∷◌, ℤ, pos, length, get_or}
use Rattle.zone.specs.Table.{mark, within, all_within}

-- The numbers of a table are in range, and the two lists equally long: the mark of each transition fits.
pub record InRange (initial : ℤ) (instants offsets : List ℤ) : Type 0 where
  pub even : length instants ≡ length offsets
  pub instants_in : all_within (2 ^ 40) instants ≡ true
  pub initial_in : within 86399 initial ≡ true
  pub offsets_in : all_within 86399 offsets ≡ true

-- The mark of the transition at place i: the offset before it is that of the entry in front, and of the first the initial one.
unfoldable pub mark_at : ℤ → List ℤ → List ℤ → ℕ → ℤ
mark_at initial instants offsets i =
    mark (record { instant = get_or instants i (pos 0); before = get_or (initial ∷ offsets) i (pos 0); after = get_or offsets i (pos 0) })
