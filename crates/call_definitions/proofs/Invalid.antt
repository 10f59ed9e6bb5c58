-- 10 "zone table invalid": one invalid table gives what any other gives.
use Prim.Native.Nat.{ℕ}
use mathlib.Core.Bool.{false}
use mathlib.Core.Path.{◌≡◌}
use mathlib.Core.List.{List}
use lib.IntN.{ℤ}
use Rattle.zone.specs.Table.{valid_table}
use Rattle.event.specs.Types.{Event}
use Rattle.event.specs.Event.{event_of}
use Rattle.call_definitions.specs.Utc.{ZoneTable}
use Rattle.call_definitions.specs.Answer.{answer_for, outcome_by, expanded}
use Rattle.call_definitions.specs.Call.{expand_text}

invalid-expanded : (zones : ZoneTable) (e : Event) (from to : ℤ) (buffer : List ℕ) → valid_table zones.initial zones.instants zones.offsets ≡ false
    → expanded zones e from to buffer ≡ record { answer = 10; length = 0; buffer = buffer }
unfolding expanded outcome_by answer_for
invalid-expanded zones e from to buffer invalid = rw invalid

pub invalid-same : (zones others : ZoneTable) (s : List ℕ) (from to : ℤ) (buffer : List ℕ) → valid_table zones.initial zones.instants zones.offsets ≡ false
    → valid_table others.initial others.instants others.offsets ≡ false → expand_text zones s from to buffer ≡ expand_text others s from to buffer
unfolding expand_text
invalid-same zones others s from to buffer invalid also =
    rw (invalid-expanded zones (event_of s) from to buffer invalid, invalid-expanded others (event_of s) from to buffer also)
