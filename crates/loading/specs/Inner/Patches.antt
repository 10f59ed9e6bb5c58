-- The places of the patches of overrides that may be absent.
use Rattle.std.specs.Prelude.{ℕ, ◌≤◌, List, [], ◌≡◌, Some, None}
use Rattle.json_ends.specs.Inner.Ends.{Ends}
use Rattle.property.specs.Inner.Place.{Place}
use Rattle.override_text.specs.Inner.Lists.{places_at}

abbrev pub patches_in : List ℕ → Place → List ℕ
patches_in s None = []
patches_in s (Some at) = places_at s at

-- Each override has an id, a mark and the place of its patch.
pub record Overridden (ids gone places : ℕ) : Type 0 where
  pub marks : ids ≡ gone
  pub patches : ids ≡ places

-- What the overrides are loaded into: room for 256 in each slice.
pub record OverridesReady (s t : List ℕ) (ids gone places : ℕ) : Type 0 where
  pub ends : Ends s t
  pub ids_room : 256 ≤ ids
  pub gone_room : 256 ≤ gone
  pub places_room : 256 ≤ places
