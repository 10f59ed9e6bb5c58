-- The lowest of 1 to 9 that applies to a text, with its place: 1 to 4 as JSON come first, then 5 to 9 as an event; and what an opening says of it.
use Rattle.std.specs.Prelude.{if◌then◌else◌, Some, None}
use Prim.Native.Nat.{ℕ}
use mathlib.Core.Bool.{Bool, true, false}
use mathlib.Core.List.{List}
use mathlib.Core.Path.{◌≡◌, refl, sym, ap}
use lib.Dec.{eqb}
use borrow.Author.Tests.{ne_eqb}
use Rattle.json_strict.specs.Answer.{answer_of}
use Rattle.fault.specs.Fault.{is_wrong, first_number, first_place, First}
use Rattle.event.specs.Event.{event_first, event_fault, event_place}
use Rattle.call_definitions.specs.Call.{text_fault, Located, locate_text}
use Rattle.call_definitions.specs.Results.{Locates}

-- 1 to 4, which have no place
pub answer-first : (s : List ℕ) (j : ℕ) → j ≡ answer_of s → (j ≡ 0 → ⊥) → record { answer = j; place = 0 } ≡ locate_text s
unfolding text_fault locate_text
answer-first s j e h = rw (← e, ne_eqb j 0 h)

-- 5 to 9, 20 to 26 among them: f is the fault that decides
module _ (s : List ℕ) (z : answer_of s ≡ 0) (f : First) (e : f ≡ event_first s) where
  pub event-next : (n p : ℕ) → n ≡ first_number f → p ≡ first_place f → record { answer = n; place = p } ≡ locate_text s
  unfolding text_fault locate_text event_fault event_place
  event-next n p k q = rw (z, ← e, ← k, ← q)

  pub event-none : (n : ℕ) → n ≡ first_number f → n ≡ 0 → (text_fault s ≡ 0) × (event_fault s ≡ 0)
  unfolding text_fault event_fault
  event-none n k o = rw (z, ← e, ← k) (o, o)

-- a refusal is the text's fault
pub refused-fault : (s : List ℕ) (n p : ℕ) → record { answer = n; place = p } ≡ locate_text s → n ≡ text_fault s
unfolding locate_text
refused-fault s n p e = ap (λ (l : Located). l.answer) e

-- ---- the call for the place of a fault

no_place_lem : (f : First) → first_number f ≡ 0 → first_place f ≡ 0
no_place_lem None e = refl
no_place_lem (Some f) e = rw e (unfold is_wrong in refl)

-- an accepted text has none
accepted-place : (s : List ℕ) → text_fault s ≡ 0 → 0 ≡ (locate_text s).place
unfolding locate_text text_fault event_fault event_place
accepted-place s = go (eqb (answer_of s) 0)
  where
    go : (t : Bool) → (if t then first_number (event_first s) else answer_of s) ≡ 0 → 0 ≡ (if t then first_place (event_first s) else 0)
    go true e = sym (no_place_lem (event_first s) e)
    go false e = refl

pub refused-locates : (s : List ℕ) (n p : ℕ) → record { answer = n; place = p } ≡ locate_text s → Locates (locate_text s) n p
refused-locates s n p e = record { answer_is = ap (λ (l : Located). l.answer) e; place_is = ap (λ (l : Located). l.place) e }

pub accepted-locates : (s : List ℕ) → text_fault s ≡ 0 → Locates (locate_text s) 0 0
unfolding locate_text
accepted-locates s e = record { answer_is = sym e; place_is = accepted-place s e }
