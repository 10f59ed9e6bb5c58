-- The numbers of a record fit into its 8 bytes, and its times in UTC lie within ±2^40: what is known of an accepted event, of its window and of its
-- zone table.
use Rattle.std.specs.Prelude.{if◌then◌else◌}
use Prim.Native.Nat.{ℕ, suc, ◌+◌, ◌*◌, ◌<◌, ◌≤◌, ◌^◌}
use mathlib.Core.Bool.{Bool, true, false}
use mathlib.Core.List.{List, [], ◌∷◌}
use mathlib.Core.Option.{Option, none, some}
use mathlib.Core.Path.{◌≡◌}
use native.Mathlib.Omega.{arith}
use lib.Dec.{eqb}
use lib.IntN.{nat_abs}
use lib.ListN.{length, get_or}
use mir.Syntax.{w64}
use mir.Val.{SFits}
use Rattle.fault.proofs.Laws.{all_none}
use Rattle.zone.specs.Table.{valid_table}
use Rattle.zone.proofs.RangeLaws.{abs-fits}
use Rattle.rule.specs.Gives.{end_day}
use Rattle.json_tree.specs.Tree.{Json, Fields, place_of, text_tree}
use Rattle.event.specs.Types.{Details, Override, Event}
use Rattle.event.specs.Values.{object}
use Rattle.event.specs.Reading.{optional, placed, present}
use Rattle.event.specs.Properties.{no_length, read_length}
use Rattle.event.specs.Overrides.{read_overrides}
use Rattle.event.specs.Event.{details_in, event_in, faults_in, faults_of, event_from, event_of}
use Rattle.event.proofs.Numbers.{accepted-faultless}
use Rattle.property.proofs.Ranges.{Short, length-range}
use Rattle.override_text.proofs.RangeLaws.{InRange, read-range}
use Rattle.call_definitions.specs.Window.{since1970}
use Rattle.call_definitions.specs.Occurrence.{override_at, with_start, patched_by, details_at}
use Rattle.call_definitions.specs.Utc.{ZoneTable, utc_start, days_later, utc_end}
use Rattle.call_definitions.specs.Call.{text_fault}
use Rattle.call_definitions.proofs.Few.{accepted-event}
use Rattle.call_definitions.proofs.UtcLaws.{since-near, start-near, end-near}

-- ---- an accepted event

record Known (e : Event) : Type 0 where
  short : Short e.details.length
  ranged : (k : ℕ) → k < length e.overrides → (d : Override) → InRange (get_or e.overrides k d)

short-length : (o : Option Json) → Short (optional no_length read_length o).value
unfolding optional
short-length none = omega arith
short-length (some v) = length-range v

overrides-ranged : (own : Details) → Short own.length → (o : Option Json) → (present [] (read_overrides own) o).faults ≡ [] → (k : ℕ)
    → k < length (present [] (read_overrides own) o).value → (d : Override) → InRange (get_or (present [] (read_overrides own) o).value k d)
unfolding present
overrides-ranged own short none e k h d = absurd (omega arith)
overrides-ranged own short (some v) e k h d = read-range own short v e k h d

event-known : (at : ℕ) (fields : Fields) → (event_in at fields).faults ≡ [] → Known (event_in at fields).value
unfolding event_in details_in placed
event-known at fields e =
    let short = short-length _ in
    record { short = short; ranged = overrides-ranged _ short _ (all_none _ e).1.1.1.1.1.1.1.1.0 }

known : (s : List ℕ) → text_fault s ≡ 0 → Known (event_of s)
unfolding faults_of faults_in event_of event_from
known s h = go (object (text_tree s)) (accepted-faultless s (accepted-event s h))
  where
    go : (o : Option Fields) → faults_in (place_of (text_tree s)) o ≡ [] → Known (event_from (place_of (text_tree s)) o)
    go none e = record { short = omega arith; ranged = λ k below d. absurd (omega arith) }
    go (some fields) e = event-known (place_of (text_tree s)) fields e

-- ---- an occurrence of it

-- An id of a window and a patched start lie before 9999-01-01.
record Small (d : Details) : Type 0 where
  start : d.start < 86400 * end_day
  short : Short d.length

module _ (own : Details) (short : Short own.length) (x : ℕ) (h : x < 86400 * end_day) where
  patched_small : (os : List Override) → ((k : ℕ) → k < length os → (d : Override) → InRange (get_or os k d)) → Small (patched_by own x (override_at os x))
  unfolding override_at patched_by with_start
  patched_small [] range = record { start = h; short = short }
  patched_small (o ∷ os) range = go (patched_small os (λ k p d. range (suc k) (omega arith) d)) (eqb o.id x)
    where
      go : Small (patched_by own x (override_at os x)) → (c : Bool) → Small (patched_by own x (if c then some o else override_at os x))
      go rest true = let r = range 0 (omega arith) o in record { start = omega (arith, r.start.to); short = r.short }
      go rest false = rest

details-small : (s : List ℕ) → text_fault s ≡ 0 → (x : ℕ) → x < 86400 * end_day → Small (details_at (event_of s) x)
unfolding details_at
details-small s a x h = let k = known s a in patched_small (event_of s).details k.short x h (event_of s).overrides k.ranged

-- ---- its numbers

pub id-fits : (x : ℕ) → x < 86400 * end_day → SFits w64 (since1970 x)
id-fits x h = abs-fits (since1970 x) (omega (arith, since-near x (2 ^ 39) (omega arith) (omega arith)))

pub end-reach : (s : List ℕ) → text_fault s ≡ 0 → (x : ℕ) → x < 86400 * end_day
    → days_later (details_at (event_of s) x).start (details_at (event_of s) x).length.days < 86400 * (end_day + 366)
unfolding days_later
end-reach s accepted x h = let small = details-small s accepted x h in omega (arith, small.start, small.short)

module _ (zones : ZoneTable) (valid : valid_table zones.initial zones.instants zones.offsets ≡ true) (s : List ℕ) (accepted : text_fault s ≡ 0)
    (zone : Option (List ℕ)) (x : ℕ) (h : x < 86400 * end_day) where
  small : Small (details_at (event_of s) x)
  small = details-small s accepted x h

  pub start_small : nat_abs (utc_start zones zone (details_at (event_of s) x)) ≤ 2 ^ 40
  start_small = omega (arith, start-near zones valid zone (details_at (event_of s) x) (2 ^ 39) (omega (arith, small.start)) (omega arith))

  pub end-small : nat_abs (utc_end zones zone (details_at (event_of s) x)) ≤ 2 ^ 40
  end-small =
      omega (arith, small.short, end-near zones valid zone (details_at (event_of s) x) (2 ^ 39) (omega (arith, small.start)) (omega arith))

  pub start_fits : SFits w64 (utc_start zones zone (details_at (event_of s) x))
  start_fits = abs-fits _ (omega (arith, start_small))

  pub end_fits : SFits w64 (utc_end zones zone (details_at (event_of s) x))
  end_fits = abs-fits _ (omega (arith, end-small))
