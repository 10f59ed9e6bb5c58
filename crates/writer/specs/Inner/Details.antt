-- The details of an occurrence over the overrides' ids and the places of their patches, and its record.
use Rattle.std.specs.Prelude.{if◌then◌else◌, ℕ, ◌<◌, ◌≤◌, Bool, List, [], ◌∷◌, Option, Some, None, ◌≡◌, eqb, ℤ, length, get_or}
use Rattle.sheet.specs.Records.{Row}
use Rattle.event.specs.Types.{Details}
use Rattle.call_definitions.specs.Occurrence.{with_start}
use Rattle.override_text.specs.declared.Own.{Own}
use Rattle.override_text.specs.Inner.Patched.{patch_at}
use Rattle.record.specs.declared.Times.{Times}
use Rattle.record.specs.Inner.Utc.{times_of}
use Rattle.record.specs.Inner.Occurrences.{occurrence_row}

-- A patch stands in the overrides, they in the event: its value has 13 levels left below it.
abbrev pub patch_details : Details → List ℕ → ℕ → ℕ → Details
patch_details own s at id = (patch_at 13 own id s at).value.details

unfoldable pub details_by : List ℕ → Details → List ℕ → List ℕ → ℕ → Details
details_by s own [] places x = with_start own x
details_by s own (i ∷ ids) [] x = with_start own x
details_by s own (i ∷ ids) (p ∷ places) x =
    let rest = details_by s own ids places x in
    if eqb i x then patch_details own s p i else rest

-- The place of the patch of the first override that names x.
unfoldable pub patch_of : List ℕ → List ℕ → ℕ → Option ℕ
patch_of [] places x = None
patch_of (i ∷ ids) [] x = None
patch_of (i ∷ ids) (p ∷ places) x = if eqb i x then Some p else patch_of ids places x

-- None of the first r ids is x.
pub record Passed (ids : List ℕ) (x r : ℕ) : Type 0 where
  pub within : r ≤ length ids
  pub other : (j : ℕ) → j < r → get_or ids j 0 ≡ x → ⊥

-- What a record says of an occurrence that no override names: the event's own details, from x on.
abbrev pub times_from : Own → Bool → ℕ → Times
times_from own floating x =
    record { start = x; days = own.days; seconds = own.seconds; busy = own.busy; allday = own.allday; floating = floating }

-- What a record says of an occurrence that an override names.
unfoldable pub patch_times : Bool → Details → List ℕ → ℕ → ℕ → Times
patch_times floating own s at id = times_of floating (patch_details own s at id)

unfoldable pub row_by : Bool → ℤ → List ℤ → List ℤ → (ℕ → Details) → ℕ → Row
row_by floating initial instants offsets details x = occurrence_row initial instants offsets x (times_of floating (details x))
