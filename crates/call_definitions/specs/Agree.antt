-- 01, "The sheet and the words": "For demand 3, two events agree ..". Texts, `uid` and `updated` are not among the points.
use Rattle.std.specs.Prelude.{ℕ, List, Bool, true, false, ◌≡◌}
use Rattle.recurrence.specs.Event.{override_excludes, override_names}
use Rattle.keywords.specs.declared.Privacy.{Privacy}
use Rattle.event.specs.Types.{Length, Details, Event}
use Rattle.event.specs.Event.{event_of}
use Rattle.call_definitions.specs.Occurrence.{dates_of, details_at}
use Rattle.call_definitions.specs.Call.{text_fault}

-- "its start .., length and marks": what is compared of the event itself and of an occurrence. Request 2: "Demand 3 reads as before, with length
-- meaning both parts." So `P1W` and `P7D` are equal, "however spelled", and `P1D` and `PT24H` are not.
pub record Times : Type 0 where
  pub start : ℕ
  pub length : Length
  pub busy : Bool
  pub all_day : Bool

unfoldable pub times_of : Details → Times
times_of d = record { start = d.start; length = d.length; busy = d.busy; all_day = d.all_day }

-- "two events agree on a point when the values read there are equal, defaults filled in, however spelled"
pub record Agree (a b : Event) : Type 0 where
  -- "zones also when both are floating"
  pub zones : a.zone ≡ b.zone
  pub times : times_of a.details ≡ times_of b.details
  -- "rules one by one in order"
  pub rules : a.rules ≡ b.rules
  pub excluded_rules : a.excluded_rules ≡ b.excluded_rules
  -- "An override date is present as a name in `recurrenceOverrides`."
  pub names : (x : ℕ) → override_names (dates_of a) x ≡ override_names (dates_of b) x
  pub excludes : (x : ℕ) → override_excludes (dates_of a) x ≡ override_excludes (dates_of b) x
  -- "Where it isn't excluded, its start (its own date where no patch gives one), length and marks after the patch are compared."
  pub patched : (x : ℕ) → override_names (dates_of a) x ≡ true → override_excludes (dates_of a) x ≡ false
      → times_of (details_at a x) ≡ times_of (details_at b x)

-- An accepted text of an event of that privacy.
pub record Accepted (privacy : Privacy) (s : List ℕ) : Type 0 where
  pub accepted : text_fault s ≡ 0
  pub setting : (event_of s).privacy ≡ privacy
