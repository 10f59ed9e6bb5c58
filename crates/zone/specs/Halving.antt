-- Request 5 of 02, word for word: "it is proved that each step reads one mark and leaves at most half the run, so that 11 steps find the
-- offset in any valid table". It is said of what `search::search` hands back.
use Rattle.std.specs.Prelude.{ℕ, ◌<◌, ◌≤◌, List, [], ◌∷◌, ◌≡◌, ℤ, pos, length, get_or}
use Rattle.zone.specs.declared.search.Found.{Found}
use Rattle.zone.specs.Lookup.{offset_at}
use Rattle.zone.specs.Places.{mark_at}
use Rattle.zone.specs.Search.{halve, AtMostHalf, search_by, reads_by}

-- Two runs of marks are the same at each of these places.
unfoldable pub AgreeAt : (ℕ → ℤ) → (ℕ → ℤ) → List ℕ → Type 0
AgreeAt f g [] = Unit {0}
AgreeAt f g (i ∷ is) = (f i ≡ g i) × AgreeAt f g is

-- The places that the search for a local time reads in a table.
abbrev pub places_read : ℤ → List ℤ → List ℤ → ℤ → List ℕ
places_read initial instants offsets local = reads_by 11 (mark_at initial instants offsets) local 0 (length instants)

pub record Halving (initial : ℤ) (instants offsets : List ℤ) (local : ℤ) (r : Found) : Type 0 where
  -- "each step reads one mark": as many are read as steps are taken, and any marks that are the same there give the same result
  pub one_mark : length (places_read initial instants offsets local) ≡ r.steps
  pub no_other : (marks : ℕ → ℤ) → AgreeAt (mark_at initial instants offsets) marks (places_read initial instants offsets local)
      → search_by 11 marks local 0 (length instants) ≡ r
  -- "and leaves at most half the run", whatever the mark m
  pub half : (low high : ℕ) (m : ℤ) → low < high → AtMostHalf low high (halve local low high m)
  -- "11 steps find the offset": that at the place found, where the initial one is the first
  pub eleven : r.steps ≤ 11
  pub finds : get_or (initial ∷ offsets) r.place (pos 0) ≡ offset_at initial instants offsets local
