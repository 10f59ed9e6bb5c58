-- The definitions' event, and the fault of it that decides, from its front and the three lists.
use Rattle.std.specs.Prelude.{if◌then◌else◌}
use Prim.Native.Nat.{ℕ}
use mathlib.Core.List.{List}
use mathlib.Core.Option.{Option, none, some}
use mathlib.Core.Path.{◌≡◌, refl}
use Rattle.std.proofs.Common.{Some}
use Rattle.fault.specs.Fault.{a_fault, faults_at, lower, first, First}
use Rattle.fault.proofs.Laws.{first-groups}
use Rattle.json_tree.specs.Finds.{look_up}
use Rattle.json_tree.specs.Tree.{Fields, no_field, place_of, text_tree}
use Rattle.event.specs.Event.{details_in, nothing, event_in, no_event, faults_in, faults_of, is_no_event, event_first, event_from, event_of}
use Rattle.event.specs.Reading.{optional, required, placed, present}
use Rattle.event.specs.Values.{object, member}
use Rattle.event_text.specs.Inner.Front.{front_in, front_from, front_of, event_with, lists_faults}

event-in : (at : ℕ) (fields : Fields) → (event_in at fields).value ≡ event_with (front_in at fields)
unfolding event_in event_with front_in
event-in at fields = refl

-- A value that is no object gives the event of an object without members.
nothing-in : (at : ℕ) → nothing ≡ event_with (front_in at no_field)
unfolding event_with front_in details_in member look_up placed optional required present
nothing-in at = refl

pub event-front : (s : List ℕ) → event_of s ≡ event_with (front_of s)
unfolding event_of front_of event_from
event-front s = go (object (text_tree s))
  where
    go : (o : Option Fields) → event_from (place_of (text_tree s)) o ≡ event_with (front_from s o)
    go none = nothing-in _
    go (some fields) = event-in _ fields

first-in : (at : ℕ) (fields : Fields) → first (event_in at fields).faults ≡ lower (front_in at fields).fault (first (lists_faults (front_in at fields)))
unfolding event_in front_in lists_faults
first-in at fields = first-groups _ _

-- 5 stands at the front of the text, however the 0 is written.
pub five-front : (r : First) (place : ℕ) → r ≡ first (faults_at 5 place) → place ≡ 0 → r ≡ Some (a_fault 5 0)
unfolding first faults_at lower
five-front r place e z = rw z at e

-- "Where 5 applies, 6 to 9 are not judged".
pub first-none : (s : List ℕ) → object (text_tree s) ≡ none → event_first s ≡ Some (a_fault 5 0)
unfolding event_first is_no_event
first-none s e = rw e

pub first_some : (s : List ℕ) (fields : Fields) → object (text_tree s) ≡ some fields
    → event_first s ≡ (if no_event fields then Some (a_fault 5 0) else lower (front_of s).fault (first (lists_faults (front_of s))))
unfolding event_first faults_of faults_in is_no_event front_of
first_some s fields e = rw (e, ← (first-in (place_of (text_tree s)) fields))
