-- The occurrences of an event: which there are, and what each has after its patch.
use Rattle.std.specs.Prelude.{if◌then◌else◌, ℕ, Bool, true, false, List, [], ◌∷◌, map, eqb}
use Rattle.std.proofs.Math.Option.{Option, none, some}
use Rattle.recurrence.specs.Event.{in_set}
use Rattle.recurrence.specs.Event as recurrence
use Rattle.recurrence.specs.Ids.{ids}
use Rattle.event.specs.Types.{Details, Override, Event}

-- The part of an event that its dates depend on.
unfoldable pub dates_of : Event → recurrence.Event
dates_of e =
    record {
      start = e.details.start;
      rules = e.rules;
      excluded_rules = e.excluded_rules;
      overrides = map (λ o. record { id = o.id; excluded = o.excluded }) e.overrides;
    }

unfoldable pub is_occurrence : Event → ℕ → Bool
is_occurrence e x = in_set (dates_of e) x

unfoldable pub occurrences : Event → ℕ → ℕ → List ℕ
occurrences e from to = ids (dates_of e) from to

-- The override that names x.
unfoldable pub override_at : List Override → ℕ → Option Override
override_at [] x = none
override_at (o ∷ l) x = let rest = override_at l x in if eqb o.id x then some o else rest

-- The details of the occurrence x: the event's own, from x on, where no override names it.
unfoldable pub with_start : Details → ℕ → Details
with_start d x =
    record { start = x; length = d.length; busy = d.busy; all_day = d.all_day; title = d.title; description = d.description }

unfoldable pub patched_by : Details → ℕ → Option Override → Details
patched_by own x none = with_start own x
patched_by own x (some o) = o.details

unfoldable pub details_at : Event → ℕ → Details
details_at e x = patched_by e.details x (override_at e.overrides x)
