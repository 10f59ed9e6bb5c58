-- The whole calls, on a text: 01, "Answer numbers". "The sheet can answer 0 to 13; the words need only text and date and answer 0 to 9 or 14."
use Rattle.std.specs.Prelude.{if◌then◌else◌, ℕ, ◌&&◌, List, [], ◌∷◌, eqb, ℤ}
use Rattle.std.proofs.Math.Option.{Option, none, some}
use lib.ListN.{length}
use Rattle.json_strict.specs.Answer.{answer_of}
use Rattle.keywords.specs.declared.Privacy.{Privacy}
use Rattle.event.specs.Types.{Text, Details, Event}
use Rattle.event.specs.Event.{event_fault, event_place, event_of}
use Rattle.call_definitions.specs.Occurrence.{details_at}
use Rattle.call_definitions.specs.Utc.{ZoneTable}
use Rattle.call_definitions.specs.Answer.{is_public, Outcome, expanded, date_time_of, text_answer}

-- "An event is accepted when none of 1 to 9 applies to its text": the lowest of 1 to 9 that applies, or 0. 02, 4, of 20 to 26: "The order against the
-- other numbers is that of 6, so "1 to 9" takes them in."
unfoldable pub text_fault : List ℕ → ℕ
text_fault s = let event = event_fault s in if eqb (answer_of s) 0 then event else answer_of s

-- What the call for the place of a fault answers. 02, 4: "Each carries the byte place, from 0, at which the first such value in the text begins";
-- "only a call of the uploader's own, on one text, gives the place". Only 20 to 26 have one: it is 0 for every other number.
pub record Located : Type 0 where
  pub answer : ℕ
  pub place : ℕ

unfoldable pub locate_text : List ℕ → Located
locate_text s = let place = event_place s in record { answer = text_fault s; place = if eqb (answer_of s) 0 then place else 0 }

-- A refusal: "the buffer keeps all of them, the length is 0".
unfoldable pub expand_text : ZoneTable → List ℕ → ℤ → ℤ → List ℕ → Outcome
expand_text zones s from to buffer =
    let done = expanded zones (event_of s) from to buffer in
    if eqb (text_fault s) 0 then done else record { answer = text_fault s; length = 0; buffer = buffer }

-- What the call for a text answers: the number, and the place of the text in the caller's own. "the part has no bytes": both are 0.
pub record Shown : Type 0 where
  pub answer : ℕ
  pub start : ℕ
  pub length : ℕ

unfoldable pub place_from : ℕ → List ℕ → Shown
place_from at [] = record { answer = 0; start = 0; length = 0 }
place_from at (b ∷ raw) = record { answer = 0; start = at; length = lib.ListN.length (b ∷ raw) }

unfoldable pub place_of : Option Text → Shown
place_of none = record { answer = 0; start = 0; length = 0 }
place_of (some t) = place_from t.at t.raw

abbrev pub no_place : ℕ → Shown
no_place answer = record { answer = answer; start = 0; length = 0 }

-- "For a private event, or where there are none, the part has no bytes."
unfoldable pub shown_for : Privacy → ℕ → Shown → Shown
shown_for privacy answer place = if eqb answer 0 && is_public privacy then place else no_place answer

unfoldable pub shown_at : (Details → Option Text) → Event → Option ℕ → Shown
shown_at which e none = no_place 14
shown_at which e (some x) = shown_for e.privacy (text_answer e (some x)) (place_of (which (details_at e x)))

unfoldable pub text_of : (Details → Option Text) → List ℕ → ℤ → Shown
text_of which s date =
    let shown = shown_at which (event_of s) (date_time_of date) in
    if eqb (text_fault s) 0 then shown else no_place (text_fault s)

unfoldable pub title_of : List ℕ → ℤ → Shown
title_of s date = text_of (λ d. d.title) s date

unfoldable pub description_of : List ℕ → ℤ → Shown
description_of s date = text_of (λ d. d.description) s date
