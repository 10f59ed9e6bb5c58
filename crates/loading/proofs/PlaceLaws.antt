-- A list of an event by its place: none, or what stands there.
use Rattle.std.specs.Prelude.{Some, None}
use Prim.Native.Nat.{ℕ}
use mathlib.Core.Bool.{Bool}
use mathlib.Core.List.{List, []}
use mathlib.Core.Path.{◌≡◌, refl, sym, subst}
use Rattle.json_tree.specs.Tree.{tree_at}
use Rattle.property.specs.Inner.From.{value_in}
use Rattle.property.specs.Inner.Place.{Place}
use Rattle.event.specs.Overrides.{read_overrides}
use Rattle.event.specs.Reading.{present}
use Rattle.event.specs.Rules.{read_rules}
use Rattle.event.specs.Types.{Details}
use Rattle.override_text.specs.Inner.Lists.{Filled, places_at}
use Rattle.event_text.specs.Inner.Front.{inner}
use Rattle.dates.specs.declared.Tracks.{Tracks}
use Rattle.dates.proofs.LoadLaws.{none-tracked, none-settles}
use Rattle.loading.specs.Inner.Rules.{SettledRules}
use Rattle.loading.specs.Inner.Patches.{patches_in}

pub rules-fine : (s : List ℕ) (p : Place) (at : ℕ) → p ≡ Some at → (present [] read_rules (value_in inner s p)).faults ≡ []
    → (read_rules (tree_at 15 s at)).faults ≡ []
unfolding present
rules-fine s p at e h = subst (λ (q : Place). (present [] read_rules (value_in inner s q)).faults ≡ []) e h

module _ (s : List ℕ) (p : Place) (excluded : Bool) (start limit : ℕ) (ts : Tracks) (flags : List Bool) where
  pub rules-none : p ≡ None → ts.count ≡ 0
      → SettledRules excluded start limit (present [] read_rules (value_in inner s p)).value ts flags
  unfolding present
  rules-none e c =
      subst (λ (q : Place). SettledRules excluded start limit (present [] read_rules (value_in inner s q)).value ts flags) (sym e)
      (record { settles = none-settles excluded start limit ts flags c; tracked = none-tracked ts _ c })

  pub rules-at : (at : ℕ) → p ≡ Some at → SettledRules excluded start limit (read_rules (tree_at 15 s at)).value ts flags
      → SettledRules excluded start limit (present [] read_rules (value_in inner s p)).value ts flags
  unfolding present
  rules-at at e w = subst (λ (q : Place). SettledRules excluded start limit (present [] read_rules (value_in inner s q)).value ts flags) (sym e) w

module _ (s : List ℕ) (p : Place) (ids₀ ids₁ : List ℕ) (gone₀ gone₁ : List Bool) (places₀ places₁ : List ℕ) (r : ℕ) where
  pub overrides-at : (at : ℕ) → p ≡ Some at → (own : Details)
      → Filled (read_overrides own (tree_at 15 s at)).value (places_at s at) ids₀ ids₁ gone₀ gone₁ places₀ places₁ r
      → Filled (present [] (read_overrides own) (value_in inner s p)).value (patches_in s p) ids₀ ids₁ gone₀ gone₁ places₀ places₁ r
  unfolding present
  overrides-at at e own w =
      subst (λ (q : Place). Filled (present [] (read_overrides own) (value_in inner s q)).value (patches_in s q) ids₀ ids₁ gone₀ gone₁ places₀ places₁ r)
      (sym e) w

pub overrides-none : (s : List ℕ) (p : Place) (ids : List ℕ) (gone : List Bool) (places : List ℕ) → p ≡ None → (own : Details)
    → Filled (present [] (read_overrides own) (value_in inner s p)).value (patches_in s p) ids ids gone gone places places 0
unfolding present
overrides-none s p ids gone places e own =
    subst (λ (q : Place). Filled (present [] (read_overrides own) (value_in inner s q)).value (patches_in s q) ids ids gone gone places places 0)
    (sym e) (record { count = refl; ids = refl; gone = refl; places = refl })
