-- What is shown for a date, by whether it is an occurrence and who may see the event.
use Rattle.std.specs.Prelude.{if◌then◌else◌}
use Prim.Native.Nat.{ℕ, ◌<◌}
use mathlib.Core.Bool.{Bool, true, false, false≢true}
use mathlib.Core.Option.{Option, none, some}
use mathlib.Core.Path.{◌≡◌, refl, sym}
use native.Mathlib.Omega.{arith}
use lib.IntN.{ℤ, pos, negsuc, neg_ℤ}
use lib.Signed.{le_z}
use mir.Syntax.{w64}
use mir.Val.{SFits, to_z, of_z}
use mir.Facts.{to_z-of_z}
use Rattle.signed.proofs.Parts.{parts-le}
use Rattle.keywords.specs.declared.Privacy.{Privacy}
use Rattle.keywords.specs.declared.Privacy.TheVariants.{Public, Private, Secret}
use Rattle.event.specs.Types.{Text, Details, Event}
use Rattle.call_definitions.specs.Window.{epoch, since1600}
use Rattle.call_definitions.specs.Answer.{is_secret, is_public, text_answer_for, text_answer, date_time_of}
use Rattle.call_definitions.specs.Call.{Shown, no_place, place_of, shown_for, shown_at}
use Rattle.call_definitions.specs.Occurrence.{is_occurrence, details_at}
use Rattle.record.proofs.WindowLaws.{since-parts}
use Rattle.texts.specs.Inner.Shown.{shown_by}

-- ---- who may see it

secret-for : (p : Privacy) (occurs : Bool) (place : Shown) → is_secret p ≡ true → shown_for p (text_answer_for p occurs) place ≡ no_place 14
unfolding shown_for text_answer_for
secret-for Public occurs place e = absurd (false≢true e)
secret-for Private occurs place e = absurd (false≢true e)
secret-for Secret occurs place e = refl

open-for : (p : Privacy) (occurs : Bool) (place : Shown) → is_secret p ≡ false → shown_for p (text_answer_for p occurs) place ≡ shown_by (is_public p) occurs place
unfolding shown_for text_answer_for shown_by
open-for Public true place e = refl
open-for Public false place e = refl
open-for Private true place e = refl
open-for Private false place e = refl
open-for Secret occurs place e = absurd (false≢true (sym e))

module _ (which : Details → Option Text) (e : Event) (x : ℕ) where
  pub shown-secret : is_secret e.privacy ≡ true → no_place 14 ≡ shown_at which e (some x)
  unfolding shown_at text_answer
  shown-secret s = sym (secret-for e.privacy (is_occurrence e x) _ s)

  pub shown-open : is_secret e.privacy ≡ false → shown_by (is_public e.privacy) (is_occurrence e x) (place_of (which (details_at e x))) ≡ shown_at which e (some x)
  unfolding shown_at text_answer
  shown-open s = sym (open-for e.privacy (is_occurrence e x) _ s)

  -- no occurrence
  none-for : (p : Privacy) (place : Shown) → no_place 14 ≡ shown_for p (text_answer_for p false) place
  unfolding shown_for text_answer_for
  none-for Public place = refl
  none-for Private place = refl
  none-for Secret place = refl

  pub shown-none : is_occurrence e x ≡ false → no_place 14 ≡ shown_at which e (some x)
  unfolding shown_at text_answer
  shown-none s = rw s (none-for e.privacy _)

-- ---- a date as a number: one before 1600 is no occurrence

not-before : (t : ℤ) → 0 < since1600 t → le_z (neg_ℤ (pos epoch)) t ≡ true
not-before (pos n) h = refl
not-before (negsuc n) h = parts-le (neg_ℤ (pos epoch)) (negsuc n) (omega (arith, h, since-parts (negsuc n)))

-- x was found for a date that was passed by its bits
module _ (which : Details → Option Text) (e : Event) (t : ℤ) (fits : SFits w64 t) (x : ℕ) (was : x ≡ since1600 (to_z w64 (of_z w64 t))) where
  date-is : x ≡ since1600 t
  date-is = rw (to_z-of_z fits) at was

  pub date-inside : 0 < x → shown_at which e (some x) ≡ shown_at which e (date_time_of t)
  unfolding date_time_of
  date-inside h = rw (not-before t (omega (arith, date-is)), ← date-is)

  pub date-outside : (is_occurrence e x ≡ true → ⊥) → no_place 14 ≡ shown_at which e (date_time_of t)
  unfolding date_time_of shown_at
  date-outside h = go (le_z (neg_ℤ (pos epoch)) t)
    where
      none-there : (b : Bool) → is_occurrence e x ≡ b → no_place 14 ≡ shown_at which e (some x)
      none-there true p = absurd (h p)
      none-there false p = shown-none which e x p

      go : (b : Bool) → no_place 14 ≡ shown_at which e (if b then some (since1600 t) else none)
      go true = rw (← date-is) (none-there (is_occurrence e x) refl)
      go false = refl
