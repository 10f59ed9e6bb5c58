-- The trailer's two numbers, the count and the distance to the first record, fit into their four bytes: 2 ^ 32 is 4,294,967,296.
use Rattle.std.specs.Prelude.{if◌then◌else◌}
use Prim.Native.Nat.{ℕ, suc, ◌+◌, ◌-◌, ◌*◌, ◌/◌, ◌<◌, ◌≤◌}
use mathlib.Core.Bool.{Bool, true, false}
use mathlib.Core.List.{List}
use mathlib.Core.Path.{◌≡◌, refl}
use native.Mathlib.Omega.{arith}
use lib.Dec.{eqb}
use lib.IntN.{ℤ, pos, negsuc, neg_ℤ}
use lib.ListN.{length, length-map}
use lib.Signed.{le_z}
use borrow.Author.Tests.{leb-true, eqb-false}
use Rattle.signed.proofs.Parts.{subℕ-pos}
use Rattle.json_strict.specs.Answer.{answer_of}
use Rattle.rule.proofs.Bools.{right}
use Rattle.recurrence.proofs.Few.{few-ids}
use Rattle.event.specs.Types.{Event}
use Rattle.event.specs.Event.{event_fault, event_of}
use Rattle.event.proofs.Limits as limits
use Rattle.call_definitions.specs.Window.{epoch, since1600, valid_window}
use Rattle.call_definitions.specs.Occurrence.{dates_of, occurrences}
use Rattle.call_definitions.specs.Call.{text_fault}

-- no second of a valid window lies after 9998
since-last : (t : ℤ) → le_z t (pos 253370764800) ≡ true → since1600 t ≤ 265046860800
unfolding since1600
since-last (pos n) e = omega (arith, leb-true n 253370764800 e)
since-last (negsuc n) e = omega (arith, subℕ-pos epoch (suc n))

pub window-last : (from to : ℤ) → valid_window from to ≡ true → since1600 to ≤ 265046860800
unfolding valid_window
window-last from to valid = since-last to (right (le_z from to) _ (right (le_z (neg_ℤ (pos 11644473600)) from) _ valid))

few-occurrences : (e : Event) (from to : ℕ) → length (occurrences e from to) ≤ (to - from) / 86400 + 1 + length e.overrides
unfolding occurrences dates_of
few-occurrences e from to =
    let same : length (dates_of e).overrides ≡ length e.overrides = length-map e.overrides _ in
    omega (arith, few-ids (dates_of e) from to)

pub few-records : (e : Event) (from to : ℤ) → valid_window from to ≡ true → length e.overrides ≤ 256
    → 28 * length (occurrences e (since1600 from) (since1600 to)) < 4294967296
few-records e from to valid few = omega (arith, few-occurrences e (since1600 from) (since1600 to), window-last from to valid)

-- ---- of an accepted text

pub accepted-event : (s : List ℕ) → text_fault s ≡ 0 → event_fault s ≡ 0
unfolding text_fault
accepted-event s e = go (eqb (answer_of s) 0) refl e
  where
    go : (c : Bool) → eqb (answer_of s) 0 ≡ c → (if c then event_fault s else answer_of s) ≡ 0 → event_fault s ≡ 0
    go true p q = q
    go false p q = absurd (eqb-false (answer_of s) 0 p q)

pub most-overrides : (s : List ℕ) → text_fault s ≡ 0 → length (event_of s).overrides ≤ 256
most-overrides s e = limits.most-overrides s (accepted-event s e)

pub few-accepted : (s : List ℕ) (from to : ℤ) → text_fault s ≡ 0 → valid_window from to ≡ true
    → 28 * length (occurrences (event_of s) (since1600 from) (since1600 to)) < 4294967296
few-accepted s from to accepted valid = few-records (event_of s) from to valid (most-overrides s accepted)
