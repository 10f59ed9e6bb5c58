-- The overrides as lists, written into lent slices.
use Rattle.std.specs.Prelude.{if◌then◌else◌, ℕ, Bool, List, [], map, ◌≡◌, eqb, length, take}
use Rattle.std.proofs.lemmas.List.Edits.{sets}
use Rattle.json_text.specs.Bytes.{byte}
use Rattle.json_walk.specs.Walk.{members_of}
use Rattle.json_walk.specs.declared.Member.{Member}
use Rattle.event.specs.Types.{Override}

-- The places of the patches: of members, and of the value at a place, which has none where it is no object.
abbrev pub places_of : List Member → List ℕ
places_of ms = map (λ (m : Member). m.value) ms

unfoldable pub places_at : List ℕ → ℕ → List ℕ
places_at s at = if eqb (byte s at) 0x7B then places_of (members_of s at) else []

-- The first 256 overrides stand at the front of the three slices, and all after them is as it was.
pub record Filled (overrides : List Override) (patches : List ℕ) (ids₀ ids₁ : List ℕ) (gone₀ gone₁ : List Bool) (places₀ places₁ : List ℕ) (r : ℕ) : Type 0 where
  pub count : r ≡ length (take 256 overrides)
  pub ids : ids₁ ≡ sets ids₀ 0 (take 256 (map (λ (o : Override). o.id) overrides))
  pub gone : gone₁ ≡ sets gone₀ 0 (take 256 (map (λ (o : Override). o.excluded) overrides))
  pub places : places₁ ≡ sets places₀ 0 (take 256 patches)
