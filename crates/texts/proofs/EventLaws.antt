-- What was loaded of an accepted event tells of the occurrence that is asked for.
use Prim.Native.Nat.{ℕ, ◌+◌, ◌/◌}
use mathlib.Core.Bool.{Bool}
use mathlib.Core.List.{List}
use mathlib.Core.Path.{◌≡◌, sym, ap, ◌∙◌}
use native.Mathlib.Omega.{arith}
use lib.ListN.{length, take}
use lib.Seq.{length-take-le}
use Rattle.event.specs.Event.{event_of}
use Rattle.override_text.specs.Inner.Meaning.{details_in}
use Rattle.event_text.specs.declared.Head.{Head}
use Rattle.dates.specs.Inner.Dates.{dates_in}
use Rattle.call_definitions.specs.Call.{place_of}
use Rattle.call_definitions.specs.Occurrence.{is_occurrence, details_at}
use Rattle.writer.specs.Inner.Details.{details_by}
use Rattle.loading.specs.declared.Kept.{Kept}
use Rattle.loading.specs.Inner.Loads.{Loads}
use Rattle.loading.proofs.CallerLaws.{loads-occurs}
use Rattle.texts.specs.Inner.Dated.{Dated}
use Rattle.texts.specs.Inner.Shown.{chosen}

module _ (s t : List ℕ) (h : Head) (x : ℕ) (asked : Dated s t h x) where
  module _ (rows : List Bool) (ids : List ℕ) (gone : List Bool) (places : List ℕ) (k : Kept) (l : Loads s (x / 86400 + 1) rows ids gone places k) where
    pub even : length (take k.count ids) ≡ length (take k.count places)
    even = length-take-le k.count ids l.ids_fit ∙ sym (length-take-le k.count places l.places_fit)

    pub occurs : dates_in k.dates rows (take k.count ids) (take k.count gone) x ≡ is_occurrence (event_of s) x
    occurs = loads-occurs s (x / 86400 + 1) rows ids gone places k l x (omega arith)

    pub place_same : (title : Bool)
        → place_of (chosen title (details_by s (details_in s k.form.own) (take k.count ids) (take k.count places) x)) ≡ place_of (chosen title (details_at (event_of s) x))
    place_same title = ap (λ d. place_of (chosen title d)) (l.details x)
