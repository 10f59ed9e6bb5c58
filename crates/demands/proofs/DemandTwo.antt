-- Demand 2 of every call for the sheet that keeps its contract, `Gives (expand_text ..)`.
use Prim.Native.Nat.{ℕ, ◌+◌, ◌*◌, ◌<◌, ◌≤◌}
use mathlib.Core.Bool.{Bool, true, false, false≢true, not, ◌||◌}
use mathlib.Core.List.{List}
use mathlib.Core.Logic.{◌↔◌}
use mathlib.Core.Path.{◌≡◌, refl, sym, ap, ◌∙◌, subst}
use native.Mathlib.Omega.{arith}
use lib.Dec.{ltb}
use lib.IntN.{ℤ}
use lib.ListN.{length, get_or}
use lib.Seq.{sets}
use lib.Signed.{lt_z}
use borrow.Author.Tests.{ltb-false}
use Rattle.rule.specs.Lists.{any}
use Rattle.rule.specs.Gives.{end_day}
use Rattle.recurrence.specs.Inner.Order.{StrictlyIncreases, among}
use Rattle.recurrence.specs.Inner.Within.{OccursWithin}
use Rattle.zone.specs.Table.{valid_table}
use Rattle.event.specs.Types.{Event}
use Rattle.event.specs.Event.{event_of}
use Rattle.call_definitions.specs.Window.{since1600, since1970, valid_window}
use Rattle.call_definitions.specs.Occurrence.{dates_of, occurrences, details_at}
use Rattle.call_definitions.specs.Utc.{ZoneTable}
use Rattle.call_definitions.specs.Bytes.{row_of, rows_for, written_version, table_of}
use Rattle.call_definitions.specs.Answer.{Outcome, is_secret, expanded}
use Rattle.call_definitions.specs.Call.{text_fault, expand_text}
use Rattle.call_definitions.specs.Results.{Gives}
use Rattle.call_definitions.proofs.DemandTwo as definitions
use Rattle.call_definitions.proofs.DemandTwo.{rows-count}
use Rattle.call_definitions.proofs.Few.{few-accepted}
use Rattle.demands.specs.Conditions.{applies, text_conditions, fault_conditions, call_conditions, table_conditions}
use Rattle.sheet.specs.Records as sheet
use Rattle.sheet.specs.Records.{id_at, row_at}
use Rattle.sheet.specs.Writing.{sheet_of}
use Rattle.sheet.specs.Reading.{most_marks}
use Rattle.demands.specs.Two.{OnSheet, OccursIn, Row, Listed}
use Rattle.demands.proofs.DemandOne.{table_none}
use Rattle.demands.proofs.SheetLaws.{has-sheet, row_back, zeros-back}
use Rattle.demands.proofs.Lists.{among-stands, at-among, increases-at}
use Rattle.demands.proofs.WindowLaws.{back-1600, back-1970, earlier, low-enough, after_first, before_last, first_below, last-above}
use Rattle.demands.proofs.Rows.{past, ordered, small, row_is, occurrences-writable}
use Rattle.demands.proofs.Ranges.{end-reach, start_small, end-small}

-- ---- what does not apply to a call that is answered 0

or-none : (b : Bool) → (b || false) ≡ false → b ≡ false
or-none true h = h
or-none false h = refl

not-not : (b : Bool) → not b ≡ false → b ≡ true
not-not true h = refl
not-not false h = absurd (false≢true (sym h))

module _ (zones : ZoneTable) (s : List ℕ) (from to : ℤ) (buffer : List ℕ) where
  pub table-valid : applies 10 (table_conditions zones s from to buffer) ≡ false → valid_table zones.initial zones.instants zones.offsets ≡ true
  unfolding applies any table_conditions text_conditions fault_conditions call_conditions
  table-valid h = not-not (valid_table zones.initial zones.instants zones.offsets) (or-none (not (valid_table zones.initial zones.instants zones.offsets)) h)

  pub window-valid : applies 11 (table_conditions zones s from to buffer) ≡ false → valid_window from to ≡ true
  unfolding applies any table_conditions text_conditions fault_conditions call_conditions
  window-valid h = not-not (valid_window from to) (or-none (not (valid_window from to)) h)

  pub room : applies 13 (table_conditions zones s from to buffer) ≡ false → length (table_of zones (event_of s) from to) ≤ length buffer
  unfolding applies any table_conditions text_conditions fault_conditions call_conditions
  room h = ltb-false _ _ (or-none (ltb (length buffer) (length (table_of zones (event_of s) from to))) h)

  pub accepted-outcome : text_fault s ≡ 0 → expand_text zones s from to buffer ≡ expanded zones (event_of s) from to buffer
  unfolding expand_text
  accepted-outcome h = rw h

-- ---- a sheet of the occurrences, read back

module _ (zones : ZoneTable) (s : List ℕ) (from to : ℤ) (before after : List ℕ) (accepted : text_fault s ≡ 0)
    (table : valid_table zones.initial zones.instants zones.offsets ≡ true) (window : valid_window from to ≡ true) where
  abbrev e : Event
  e = event_of s

  abbrev xs : List ℕ
  xs = occurrences (event_of s) (since1600 from) (since1600 to)

  abbrev d : sheet.Row
  d = past zones s from to accepted table window

  increase : StrictlyIncreases xs
  increase = (ordered zones s from to accepted table window).0

  exactly : (x : ℕ) → (among x xs ≡ true) ↔ OccursWithin (dates_of e) (since1600 from) (since1600 to) x
  exactly = (ordered zones s from to accepted table window).1

  brief : (k : ℕ) → k < length xs → get_or xs k 0 < 86400 * end_day
  brief = small zones s from to accepted table window

  module _ (is : after ≡ sets before 0 (sheet_of written_version (rows_for zones e xs))) (fits : 28 * length xs + 12 ≤ length before) where
    row-at-is : (k : ℕ) → k < length xs → row_at after k ≡ row_of zones e.zone (get_or xs k 0) (details_at e (get_or xs k 0))
    row-at-is k h =
        let f = (occurrences-writable zones s from to accepted table window).fits k (omega (arith, rows-count zones e xs)) in
        row_back zones e xs before after is fits d k h (most_marks written_version) f ∙ row_is zones s from to accepted table window k

    id_is : (k : ℕ) → k < length xs → id_at after k ≡ since1970 (get_or xs k 0)
    unfolding row_at row_of
    id_is k h = ap (λ (r : sheet.Row). r.id) (row-at-is k h)

    id-of : (k : ℕ) → k < length xs → get_or xs k 0 ≡ since1600 (id_at after k)
    id-of k h = sym (ap since1600 (id_is k h) ∙ back-1600 (get_or xs k 0))

    ids-increase : (j k : ℕ) → j < k → k < length xs → lt_z (id_at after j) (id_at after k) ≡ true
    ids-increase j k h b =
        rw (id_is j (omega arith), id_is k b) (earlier (get_or xs j 0) (get_or xs k 0) (increases-at xs increase j k h b))

    there : (id : ℤ) → OnSheet (length xs) after id → OccursIn e from to id
    there id o =
        let x = get_or xs o.place 0 in
        let w = (exactly x).0 (at-among xs o.place o.below) in
        let same : since1970 x ≡ id = sym (id_is o.place o.below) ∙ o.is in
        subst (OccursIn e from to) same
        (record {
          not_before = after_first from to window x w.not_before;
          before = before_last from to window x w.before;
          occurs = rw (back-1600 x) w.occurs;
        })

    found : (id : ℤ) → OccursIn e from to id → OnSheet (length xs) after id
    found id o =
        let x = since1600 id in
        let w : OccursWithin (dates_of e) (since1600 from) (since1600 to) x = record { not_before = first_below from to window id o.not_before; before = last-above from to window id o.not_before o.before; occurs = o.occurs } in
        let p = among-stands xs x ((exactly x).1 w) in
        record {
          place = p.place;
          below = p.below;
          is = id_is p.place p.below ∙ ap since1970 p.is ∙ back-1970 id (low-enough from to window id o.not_before);
        }

    row-at : (k : ℕ) → k < length xs → Row zones e after k
    unfolding row_at row_of
    row-at k h =
        let x = get_or xs k 0 in
        let is_x = id-of k h in
        let start = ap (λ (r : sheet.Row). r.start) (row-at-is k h) in
        let end = ap (λ (r : sheet.Row). r.end) (row-at-is k h) in
        record {
          start_is = rw (← is_x) start;
          end_is = rw (← is_x) end;
          reach = rw (← is_x) (end-reach s accepted x (brief k h));
          near = (
            rw start (omega (arith, start_small zones table s accepted e.zone x (brief k h))),
            rw end (omega (arith, end-small zones table s accepted e.zone x (brief k h))),
          );
          marks_is = rw (← is_x) (ap (λ (r : sheet.Row). r.marks) (row-at-is k h));
          zeros = zeros-back zones e xs before after is fits d k h;
        }

    sheet-listed : (size : ℕ) → size ≡ 28 * length xs + 12 → Listed zones e from to before size after
    sheet-listed size sized =
        record {
          count = length xs;
          sheet = has-sheet zones e xs before after is fits (few-accepted s from to accepted window) size sized;
          increase = ids-increase;
          exactly = λ id. (there id, found id);
          rows = row-at;
        }

-- ---- the call

module _ (zones : ZoneTable) (s : List ℕ) (from to : ℤ) (buffer : List ℕ) (accepted : text_fault s ≡ 0) (shown : is_secret (event_of s).privacy ≡ false) where
  pub table-listed : (answer size : ℕ) (after : List ℕ) → Gives (expand_text zones s from to buffer) answer size after → answer ≡ 0
      → Listed zones (event_of s) from to buffer size after
  table-listed answer size after g done =
      let is = accepted-outcome zones s from to buffer accepted in
      let o = sym (g.answer_is ∙ ap (λ (u : Outcome). u.answer) is) ∙ done in
      let said = definitions.demand-two zones (event_of s) from to buffer shown o in
      let bytes = g.buffer_is ∙ ap (λ (u : Outcome). u.buffer) is ∙ said.bytes in
      let sized = g.length_is ∙ ap (λ (u : Outcome). u.length) is ∙ said.size in
      let none = table_none zones s from to buffer answer size after g done in
      let written = definitions.table-written zones (event_of s) from to buffer o in
      let long = sym (ap (λ (u : Outcome). u.length) written) ∙ said.size in
      let fits : 28 * length (occurrences (event_of s) (since1600 from) (since1600 to)) + 12 ≤ length buffer = omega (arith, room zones s from to buffer (none 13), long) in
      sheet-listed zones s from to buffer after accepted (table-valid zones s from to buffer (none 10)) (window-valid zones s from to buffer (none 11))
      bytes fits size sized
