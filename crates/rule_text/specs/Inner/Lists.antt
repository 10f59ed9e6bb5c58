-- The by-lists of a rule: where one stands, and its fault.
use Rattle.std.specs.Prelude.{if◌then◌else◌, ℕ, ◌<◌, Bool, true, false, List, map, ◌≡◌, eqb, ltb, ℤ, pos, length, Some, None}
use Rattle.std.proofs.Math.Option.{Option, none, some}
use Rattle.std.proofs.lemmas.List.Edits.{sets}
use Rattle.fault.specs.Fault.{lower, first, First, a_fault}
use Rattle.json_text.specs.Bytes.{byte}
use Rattle.rule.specs.Written.{NDay}
use Rattle.event.specs.Reading.{Judged}
use Rattle.event.specs.Rules.{any_nth}
use Rattle.property.specs.Inner.Place as property
use Rattle.rule_text.specs.declared.Place.{Place}
use Rattle.rule_text.specs.declared.Place.TheVariants.{At, Absent, Wrong}

-- The array that a member has, none where there is no such member, or another value, whose place is said too.
unfoldable pub list_place : List ℕ → property.Place → Place
list_place s None = Absent
list_place s (Some i) = if eqb (byte s i) 0x5B then At i else Wrong i

abbrev pub Within : ℕ → Place → Type 0
Within n (At i) = i < n
Within n Absent = ◌≡◌ {A = ℕ} 0 0
Within n (Wrong i) = ◌≡◌ {A = ℕ} 0 0

pub record Placed (s : List ℕ) (found : property.Place) (r : Place) : Type 0 where
  pub is : r ≡ list_place s found
  pub within : Within (length s) r

-- The fault of a list with so many entries at a place, of whose entries' own n decides: 02, 4: "empty list 25"; 9: over "64 entries in a by-list".
unfoldable pub list_fault : ℕ → ℕ → First → First
list_fault m at n =
    if eqb m 0 then Some (a_fault 25 at) else
    if ltb 64 m then lower n (Some (a_fault 9 at)) else
    n

-- An `nthOfPeriod` as a number, 0 where there is none.
abbrev pub nth_number : Option ℤ → ℤ
nth_number none = pos 0
nth_number (some z) = z

abbrev pub is_some : Option ℤ → Bool
is_some none = false
is_some (some z) = true

abbrev pub day_of : NDay → ℕ
day_of e = e.day

abbrev pub nth_of : NDay → ℤ
nth_of e = nth_number e.nth_of_period

-- What the reader of an entry of `byDay` answers, and that of the list.
pub record DayReads (tree : ℕ → Judged NDay) (w : ℕ) (z : ℤ) (n : First) : Type 0 where
  pub day : (l : ℕ) → w ≡ day_of (tree l).value
  pub nth : (l : ℕ) → z ≡ nth_of (tree l).value
  pub fault : (l : ℕ) → n ≡ first (tree l).faults

pub record DayEntries (tree : ℕ → Judged (List NDay)) (ws ws2 : List ℕ) (zs zs2 : List ℤ) (m : ℕ) (b : Bool) (n : First) : Type 0 where
  pub weekdays : (l : ℕ) → ws2 ≡ sets ws 0 (map day_of (tree l).value)
  pub nths : (l : ℕ) → zs2 ≡ sets zs 0 (map nth_of (tree l).value)
  pub count : (l : ℕ) → m ≡ length (tree l).value
  pub any : (l : ℕ) → b ≡ any_nth (tree l).value
  pub fault : (l : ℕ) → n ≡ first (tree l).faults
