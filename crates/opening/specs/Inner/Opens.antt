-- What the opening of a text promises: the lowest of 1 to 9 that applies with its place, or the head of an accepted event.
use Rattle.std.specs.Prelude.{ℕ, List, Result, Ok, Err, ◌≡◌}
use Rattle.event_text.specs.declared.Head.{Head}
use Rattle.event_text.specs.Inner.Taken.{Taken}
use Rattle.call_definitions.specs.Call.{text_fault, locate_text}
use Rattle.opening.specs.declared.Refusal.{Refusal}

abbrev pub Opens : List ℕ → List ℕ → Result Head Refusal → Type 0
Opens s t (Err r) = (record { answer = r.answer; place = r.place } ≡ locate_text s) × (r.answer ≡ 0 → ⊥)
Opens s t (Ok h) = (text_fault s ≡ 0) × Taken s t h
