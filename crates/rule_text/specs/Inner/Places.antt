-- The places of the rules of a list.
use Rattle.std.specs.Prelude.{if◌then◌else◌, ℕ, List, [], map, ◌≡◌, eqb, ltb, length, Some}
use Rattle.std.proofs.lemmas.List.Edits.{sets}
use Rattle.fault.specs.Fault.{lower, first, First, a_fault}
use Rattle.json_text.specs.Bytes.{byte}
use Rattle.json_walk.specs.Walk.{elements_of}
use Rattle.json_walk.specs.declared.Element.{Element}
use Rattle.json_tree.specs.Tree.{Json, place_of}
use Rattle.event.specs.Reading.{Judged, fine}

abbrev pub value_of : Element → ℕ
value_of e = e.value

unfoldable pub places_at : List ℕ → ℕ → List ℕ
places_at s i = if eqb (byte s i) 0x5B then map value_of (elements_of s i) else []

-- All places are counted, and those are stored that the lent room has places for.
pub record Places (s : List ℕ) (i : ℕ) (before after : List ℕ) (m : ℕ) : Type 0 where
  pub list : after ≡ sets before 0 (places_at s i)
  pub count : m ≡ length (places_at s i)

-- The place of a value, as a reading without faults.
abbrev pub read_place : Json → Judged ℕ
read_place v = fine (place_of v)

-- The entries of a list counted, with the fault that decides.
pub record Tally {A : Type 0} (tree : ℕ → Judged (List A)) (m : ℕ) (n : First) : Type 0 where
  pub count : (l : ℕ) → m ≡ length (tree l).value
  pub fault : (l : ℕ) → n ≡ first (tree l).faults

-- 9: "over 8 rules in either list", which stands at a place.
unfoldable pub rules_fault : ℕ → ℕ → First → First
rules_fault m at n = if ltb 8 m then lower n (Some (a_fault 9 at)) else n
