-- The look-up of a date in an accepted event, by the head of its text.
use Prim.Native.Nat.{ℕ, ◌*◌, ◌<◌, ◌≤◌}
use mathlib.Core.Bool.{Bool, true, false}
use mathlib.Core.List.{List}
use mathlib.Core.Option.{some}
use mathlib.Core.Path.{◌≡◌, sym, ap, ◌∙◌}
use native.Mathlib.Omega.{arith}
use lib.IntN.{ℤ}
use lib.ListN.{length}
use mir.Syntax.{w64}
use mir.Val.{SFits, to_z, of_z}
use Rattle.event.specs.Event.{event_of}
use Rattle.event_text.specs.Inner.Taken.{Taken}
use Rattle.event_text.specs.declared.Head.{Head}
use Rattle.event_text.proofs.FromHead.{head-privacy}
use Rattle.loading.proofs.KeptLaws.{kept-years}
use Rattle.call_definitions.specs.Window.{since1600}
use Rattle.call_definitions.specs.Answer.{is_secret, is_public, date_time_of}
use Rattle.call_definitions.specs.Call.{Shown, no_place, place_of, shown_at}
use Rattle.call_definitions.specs.Occurrence.{is_occurrence, details_at}
use Rattle.texts.specs.Inner.Shown.{Placed, chosen, shown_by}
use Rattle.texts.proofs.PartLaws.{empty-placed, placed_same}
use Rattle.texts.proofs.DateLaws.{shown-secret, shown-open, date-inside, date-outside}

module _ (s u : List ℕ) (h : Head) (known : Taken s u h) (title : Bool) where
  -- who may see the event, as the code found it
  module _ (x : ℕ) (secret : Bool) (was : secret ≡ is_secret h.privacy) where
    as-event : secret ≡ is_secret (event_of s).privacy
    as-event = was ∙ sym (ap is_secret (head-privacy s h known.head))

    pub secret-shown : secret ≡ true → Placed (length s) (shown_at (chosen title) (event_of s) (some x)) (no_place 14)
    secret-shown e = placed_same _ _ _ (shown-secret (chosen title) (event_of s) x (sym as-event ∙ e)) _ (empty-placed _ 14)

    pub open-shown : secret ≡ false → (all : Bool) → all ≡ is_public h.privacy → (r : Shown)
        → Placed (length s) (shown_by all (is_occurrence (event_of s) x) (place_of (chosen title (details_at (event_of s) x)))) r
        → Placed (length s) (shown_at (chosen title) (event_of s) (some x)) r
    open-shown e all seen r p =
        let as-all = seen ∙ sym (ap is_public (head-privacy s h known.head)) in
        placed_same _ _ _ (ap (λ (b : Bool). shown_by b (is_occurrence (event_of s) x) (place_of (chosen title (details_at (event_of s) x)))) as-all ∙ shown-open (chosen title) (event_of s) x (sym as-event ∙ e)) r p

  -- the date, passed by its bits
  module _ (t : ℤ) (fits : SFits w64 t) (x : ℕ) (was : x ≡ since1600 (to_z w64 (of_z w64 t))) where
    outside : ((366 * 86400 ≤ x) × (x < 3067672 * 86400) → ⊥) → Placed (length s) (shown_at (chosen title) (event_of s) (date_time_of t)) (no_place 14)
    outside out =
        placed_same _ _ _ (date-outside (chosen title) (event_of s) t fits x was (λ e. out (kept-years s h known.head known.accepted x e))) _ (empty-placed _ 14)

    pub early-shown : x < 31622400 → Placed (length s) (shown_at (chosen title) (event_of s) (date_time_of t)) (no_place 14)
    early-shown early = outside (λ w. absurd (omega (arith, w.0)))

    pub late-shown : 265046860800 ≤ x → Placed (length s) (shown_at (chosen title) (event_of s) (date_time_of t)) (no_place 14)
    late-shown late = outside (λ w. absurd (omega (arith, w.1)))

    pub date-shown : 31622400 ≤ x → (r : Shown) → Placed (length s) (shown_at (chosen title) (event_of s) (some x)) r
        → Placed (length s) (shown_at (chosen title) (event_of s) (date_time_of t)) r
    date-shown h r p = placed_same _ _ _ (date-inside (chosen title) (event_of s) t fits x was (omega arith)) r p
