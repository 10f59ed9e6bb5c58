-- The calls for a text, by the fault of the event's text and what the look-up found.
use Rattle.std.specs.Prelude.{Option}
use Prim.Native.Nat.{ℕ, ◌+◌, ◌-◌, ◌≤◌}
use mathlib.Core.Bool.{Bool, true, false}
use mathlib.Core.List.{List}
use mathlib.Core.Path.{◌≡◌, sym, ap, subst, ◌∙◌}
use native.Mathlib.Omega.{arith}
use borrow.Author.Tests.{ne_eqb}
use lib.IntN.{ℤ}
use lib.ListN.{length, take, drop}
use mir.Syntax.{w64}
use mir.Val.{SFits, to_z, of_z}
use mir.Facts.{to_z-of_z}
use Rattle.event.specs.Event.{event_of}
use Rattle.call_definitions.specs.Answer.{date_time_of}
use Rattle.call_definitions.specs.Call.{Shown, no_place, text_fault, shown_at, text_of, title_of, description_of}
use Rattle.call_definitions.specs.Results.{Shows, Tells}
use Rattle.texts.specs.declared.Told.{Told}
use Rattle.texts.specs.declared.Part.{Part}
use Rattle.texts.specs.Inner.Shown.{told_shown, lookup_shown, Placed, chosen}

-- The date was passed by its bits.
module _ (s : List ℕ) (title : Bool) (t : ℤ) (fits : SFits w64 t) where
  refused : (f : ℕ) → (f ≡ text_fault s) × (f ≡ 0 → ⊥) → no_place f ≡ text_of (chosen title) s t
  unfolding text_of
  refused f e = rw (← e.0, ne_eqb f 0 e.1)

  pub refused-placed : (f : ℕ) → (f ≡ text_fault s) × (f ≡ 0 → ⊥) → (u : Shown) → u ≡ no_place f → Placed (length s) (text_of (chosen title) s t) u
  refused-placed f e u is = record { is = is ∙ refused f e; within = subst (λ (v : Shown). v.start + v.length ≤ length s) (sym is) (omega arith) }

  module _ (fine : text_fault s ≡ 0) (r : Option Part) (placed : Placed (length s) (shown_at (chosen title) (event_of s) (date_time_of (to_z w64 (of_z w64 t)))) (lookup_shown r)) where
    shown : shown_at (chosen title) (event_of s) (date_time_of (to_z w64 (of_z w64 t))) ≡ text_of (chosen title) s t
    unfolding text_of
    shown = rw (to_z-of_z fits, fine)

    pub looked-placed : (u : Shown) → u ≡ lookup_shown r → Placed (length s) (text_of (chosen title) s t) u
    looked-placed u is = record { is = is ∙ (placed.is ∙ shown); within = subst (λ (v : Shown). v.start + v.length ≤ length s) (sym is) placed.within }

-- The whole answer, for a date that was passed by its bits.
module _ (s : List ℕ) (title : Bool) (t : ℤ) (fits : SFits w64 t) (size : ℕ) where
  pub date-passed : (u : Shown) → Placed size (text_of (chosen title) s (to_z w64 (of_z w64 t))) u → Placed size (text_of (chosen title) s t) u
  date-passed u p = rw (to_z-of_z fits) at p

  module _ (r : Told) (placed : Placed size (text_of (chosen title) s (to_z w64 (of_z w64 t))) (told_shown r)) where
    told : told_shown r ≡ text_of (chosen title) s t
    told = (date-passed (told_shown r) placed).is

    pub told-shows : Shows (text_of (chosen title) s t) r.answer r.start r.length
    told-shows =
        record {
          answer_is = ap (λ (u : Shown). u.answer) told;
          start_is = ap (λ (u : Shown). u.start) told;
          length_is = ap (λ (u : Shown). u.length) told;
        }

    pub told-tells : Tells (text_of (chosen title) s t) s r.answer (take (r.start + r.length - r.start) (drop r.start s))
    told-tells =
        let n : r.start + r.length - r.start ≡ r.length = omega arith in
        record {
          answer_is = ap (λ (u : Shown). u.answer) told;
          part_is = ap (λ (k : ℕ). take k (drop r.start s)) n ∙ ap (λ (u : Shown). take u.length (drop u.start s)) told;
        }

-- The two texts, by the place that the call is asked for and by its bytes.
module _ (s : List ℕ) (t : ℤ) (fits : SFits w64 t) where
  title-is : text_of (chosen true) s (to_z w64 (of_z w64 t)) ≡ title_of s t
  unfolding title_of
  title-is = rw (to_z-of_z fits)

  description-is : text_of (chosen false) s (to_z w64 (of_z w64 t)) ≡ description_of s t
  unfolding description_of
  description-is = rw (to_z-of_z fits)

  pub title-shows : (a i n : ℕ) → Shows (text_of (chosen true) s (to_z w64 (of_z w64 t))) a i n → Shows (title_of s t) a i n
  title-shows a i n = subst (λ (o : Shown). Shows o a i n) title-is

  pub description-shows : (a i n : ℕ) → Shows (text_of (chosen false) s (to_z w64 (of_z w64 t))) a i n → Shows (description_of s t) a i n
  description-shows a i n = subst (λ (o : Shown). Shows o a i n) description-is

  pub title-tells : (a : ℕ) (part : List ℕ) → Tells (text_of (chosen true) s (to_z w64 (of_z w64 t))) s a part → Tells (title_of s t) s a part
  title-tells a part = subst (λ (o : Shown). Tells o s a part) title-is

  pub description-tells : (a : ℕ) (part : List ℕ) → Tells (text_of (chosen false) s (to_z w64 (of_z w64 t))) s a part → Tells (description_of s t) s a part
  description-tells a part = subst (λ (o : Shown). Tells o s a part) description-is
