-- The records of an accepted event in a window can be written: their numbers fit, their ids increase, and they are few.
use Rattle.std.specs.Prelude.{if◌then◌else◌}
use Prim.Native.Nat.{ℕ, suc, ◌+◌, ◌*◌, ◌<◌, ◌≤◌}
use mathlib.Core.Bool.{Bool, true, false}
use mathlib.Core.List.{List, []}
use mathlib.Core.Logic.{◌↔◌}
use mathlib.Core.Option.{Option}
use mathlib.Core.Path.{◌≡◌, refl}
use native.Mathlib.Omega.{arith}
use lib.IntN.{ℤ}
use lib.ListN.{length, get_or, get_or-map}
use Rattle.zone.specs.Table.{valid_table}
use Rattle.rule.specs.Gives.{end_day}
use Rattle.recurrence.specs.Inner.Order.{StrictlyIncreases, among}
use Rattle.recurrence.specs.Inner.Within.{OccursWithin}
use Rattle.recurrence.proofs.Exactly as recurrence
use Rattle.sheet.specs.Records.{Row}
use Rattle.sheet.proofs.WrittenRead.{Writable}
use Rattle.keywords.specs.declared.Privacy.{Privacy}
use Rattle.keywords.specs.declared.Privacy.TheVariants.{Public, Private, Secret}
use Rattle.event.specs.Types.{Details, Event}
use Rattle.event.specs.Event.{event_of}
use Rattle.call_definitions.specs.Window.{since1600, valid_window}
use Rattle.call_definitions.specs.Occurrence.{dates_of, occurrences, details_at}
use Rattle.call_definitions.specs.Utc.{ZoneTable, is_floating}
use Rattle.call_definitions.specs.Bytes.{marks_of, row_of, rows_for, listed, rows_in, written_version}
use Rattle.call_definitions.specs.Call.{text_fault}
use Rattle.call_definitions.proofs.Few.{window-last, few-accepted}
use Rattle.call_definitions.proofs.DemandTwo.{rows-count}
use Rattle.demands.proofs.Lists.{at-among, increases-at}
use Rattle.demands.proofs.WindowLaws.{earlier}
use Rattle.demands.proofs.Ranges.{id-fits, start_fits, end_fits}

-- ---- "marks (1: busy 1, all-day 2, floating 4)" are at most 7

bits : (a b c : Bool) → (if a then 1 else 0) + (if b then 2 else 0) + (if c then 4 else 0) ≤ 7
bits true true true = omega arith
bits true true false = omega arith
bits true false true = omega arith
bits true false false = omega arith
bits false true true = omega arith
bits false true false = omega arith
bits false false true = omega arith
bits false false false = omega arith

marks-most : (zone : Option (List ℕ)) (d : Details) → marks_of zone d ≤ 7
unfolding marks_of
marks-most zone d = bits d.busy d.all_day (is_floating zone)

-- ---- the records of an event in a window

module _ (zones : ZoneTable) (s : List ℕ) (from to : ℤ) (accepted : text_fault s ≡ 0)
    (table : valid_table zones.initial zones.instants zones.offsets ≡ true) (window : valid_window from to ≡ true) where
  abbrev e : Event
  e = event_of s

  abbrev xs : List ℕ
  xs = occurrences (event_of s) (since1600 from) (since1600 to)

  -- it stands for a record past the last
  abbrev pub past : Row
  past = row_of zones e.zone 0 (details_at e 0)

  pub row_is : (k : ℕ) → get_or (rows_for zones e xs) k past ≡ row_of zones e.zone (get_or xs k 0) (details_at e (get_or xs k 0))
  unfolding rows_for
  row_is k = get_or-map (λ (y : ℕ). row_of zones e.zone y (details_at e y)) xs k 0

  pub ordered : StrictlyIncreases xs × ((x : ℕ) → (among x xs ≡ true) ↔ OccursWithin (dates_of e) (since1600 from) (since1600 to) x)
  unfolding occurrences
  ordered = recurrence.demand-two (dates_of e) (since1600 from) (since1600 to)

  pub small : (k : ℕ) → k < length xs → get_or xs k 0 < 86400 * end_day
  small k h = omega (arith, ((ordered.1 (get_or xs k 0)).0 (at-among xs k h)).before, window-last from to window)

  pub occurrences-writable : Writable written_version past (rows_for zones e xs)
  unfolding row_of
  occurrences-writable =
      let long = rows-count zones e xs in
      record {
        version_known = refl;
        few = omega (arith, long, few-accepted s from to accepted window);
        fits =
            λ k h.
            let b = small k (omega (arith, long)) in
            rw (row_is k)
            (record {
              id = id-fits (get_or xs k 0) b;
              start = start_fits zones table s accepted e.zone (get_or xs k 0) b;
              end = end_fits zones table s accepted e.zone (get_or xs k 0) b;
              marks = marks-most e.zone (details_at e (get_or xs k 0));
            });
        rising =
            λ k h.
            rw (row_is k, row_is (suc k))
            (earlier (get_or xs k 0) (get_or xs (suc k) 0) (increases-at xs ordered.0 k (suc k) (omega arith) (omega (arith, long))));
      }

  nothing-writable : Writable written_version past []
  nothing-writable = record { version_known = refl; few = omega arith; fits = λ k h. absurd (omega arith); rising = λ k h. absurd (omega arith) }

  listed-writable : (p : Privacy) → Writable written_version past (rows_for zones e (listed e p (since1600 from) (since1600 to)))
  unfolding listed
  listed-writable Public = occurrences-writable
  listed-writable Private = occurrences-writable
  listed-writable Secret = unfold rows_for in nothing-writable

  pub rows-writable : Writable written_version past (rows_in zones (event_of s) from to)
  unfolding rows_in
  rows-writable = listed-writable e.privacy
