-- 9, over "256 overrides": an event that has no fault has at most so many.
use Rattle.std.specs.Prelude.{if◌then◌else◌}
use Prim.Native.Nat.{ℕ, ◌≤◌}
use mathlib.Core.Bool.{Bool, true, false}
use mathlib.Core.List.{List, []}
use mathlib.Core.Option.{Option, none, some}
use mathlib.Core.Path.{◌≡◌, refl}
use native.Mathlib.Omega.{arith}
use lib.Dec.{ltb}
use lib.ListN.{length}
use borrow.Author.Tests.{ltb-false}
use Rattle.fault.specs.Fault.{faults_at}
use Rattle.fault.proofs.Laws.{append-none, all_none, fault-some}
use Rattle.json_tree.specs.Tree.{Json, Fields, place_of, text_tree}
use Rattle.event.specs.Types.{Details}
use Rattle.event.specs.Values.{object}
use Rattle.event.specs.Reading.{inside, present, limited}
use Rattle.event.specs.Overrides.{overrides_in, read_overrides}
use Rattle.event.specs.Event.{event_in, faults_in, faults_of, event_from, event_fault, event_of}
use Rattle.event.proofs.Numbers.{accepted-faultless}

at_most : (most n place : ℕ) → (if ltb most n then faults_at 9 place else []) ≡ [] → n ≤ most
at_most most n place e = go (ltb most n) refl e
  where
    go : (c : Bool) → ltb most n ≡ c → (if c then faults_at 9 place else []) ≡ [] → n ≤ most
    go true p q = absurd (fault-some 9 place refl q)
    go false p q = ltb-false most n p

pub read-most : (own : Details) (v : Json) → (read_overrides own v).faults ≡ [] → length (read_overrides own v).value ≤ 256
unfolding read_overrides limited inside
read-most own v = go (object v)
  where
    go : (o : Option Fields) → (inside [] (place_of v) (λ (fields : Fields). limited 256 (place_of v) (overrides_in own fields)) o).faults ≡ []
        → length (inside [] (place_of v) (λ (fields : Fields). limited 256 (place_of v) (overrides_in own fields)) o).value ≤ 256
    go none e = absurd (fault-some 20 (place_of v) refl e)
    go (some fields) e =
        let all = overrides_in own fields in
        let n = length all.value in
        at_most 256 n (place_of v) (append-none all.faults (if ltb 256 n then faults_at 9 (place_of v) else []) e).1

present-most : (own : Details) (o : Option Json) → (present [] (read_overrides own) o).faults ≡ [] → length (present [] (read_overrides own) o).value ≤ 256
unfolding present
present-most own none e = omega arith
present-most own (some v) e = read-most own v e

event-most : (at : ℕ) (fields : Fields) → (event_in at fields).faults ≡ [] → length (event_in at fields).value.overrides ≤ 256
unfolding event_in
event-most at fields e =
    present-most _ _ (all_none _ e).1.1.1.1.1.1.1.1.0

pub most-overrides : (s : List ℕ) → event_fault s ≡ 0 → length (event_of s).overrides ≤ 256
unfolding faults_of event_of faults_in event_from
most-overrides s e = go (object (text_tree s)) (accepted-faultless s e)
  where
    go : (o : Option Fields) → faults_in (place_of (text_tree s)) o ≡ [] → length (event_from (place_of (text_tree s)) o).overrides ≤ 256
    go none z = omega arith
    go (some fields) z = event-most (place_of (text_tree s)) fields z
