-- The record of an occurrence: it is the record that `call_definitions` gives, and what the calls of `put_occurrence` give is that record.
use Prim.Native.Nat.{ℕ, ◌<◌, ◌≤◌, ◌^◌}
use mathlib.Core.Bool.{true}
use mathlib.Core.List.{List}
use mathlib.Core.Option.{Option}
use mathlib.Core.Path.{◌≡◌, ◌∙◌}
use native.Mathlib.Omega.{arith}
use lib.IntN.{ℤ, nat_abs, ◌-ℤ◌}
use lib.Seq.{sets}
use lib.Signed.{mag}
use mir.Syntax.{w64}
use mir.Val.{SFits}
use mir.Facts.{to_z-of_z}
use Rattle.signed.proofs.Parts.{back}
use Rattle.zone.specs.Table.{valid_table}
use Rattle.event.specs.Types.{Details}
use Rattle.sheet.specs.Writing.{row_bytes}
use Rattle.call_definitions.specs.Window.{since1970}
use Rattle.call_definitions.specs.Utc.{ZoneTable, is_floating}
use Rattle.call_definitions.specs.Bytes.{row_of}
use Rattle.record.specs.declared.Times.{Times}
use Rattle.record.specs.Inner.Rows.{marks_for}
use Rattle.record.specs.Inner.Utc.{times_of, offset_by, local_start, start_offset, start_by, end_by, Started}
use Rattle.record.specs.Inner.Occurrences.{occurrence_row, Small}
use Rattle.record.proofs.RowLaws.{marks-of}
use Rattle.record.proofs.UtcLaws.{again, start-by, end_by_lem, local-abs, by-abs}

pub occurrence-row : (table : ZoneTable) (zone : Option (List ℕ)) (id : ℕ) (d : Details)
    → row_of table zone id d ≡ occurrence_row table.initial table.instants table.offsets id (times_of (is_floating zone) d)
unfolding row_of occurrence_row times_of
occurrence-row table zone id d = rw (marks-of zone d, start-by table zone d, end_by_lem table zone d)

-- ---- the calls of `put_occurrence`, one after the other: L the local start, O the offset there, U the start in UTC, E the end, I the id

module _ (b : ℤ) (ts ns : List ℤ) (f : SFits w64 b) (v : valid_table b ts ns ≡ true) (id : ℕ) (t : Times) (s : Small id t)
    (L : ℤ) (l : mag L < 2 ^ 63) (le : L ≡ since1970 t.start) (O : ℤ) (o : mag O < 2 ^ 63) (oe : O ≡ offset_by t.floating (again b) ts ns (again L)) where
  local-is : again L ≡ local_start t
  local-is = back L l ∙ le

  offset-is : again O ≡ start_offset b ts ns t
  unfolding start_offset
  offset-is = back O o ∙ (rw (to_z-of_z f, local-is) at oe)

  pub start-converts : (nat_abs (again L) ≤ 2 ^ 61) × (nat_abs (again O) ≤ 86399)
  unfolding start_offset
  start-converts =
      (rw local-is (local-abs t.start (omega (arith, s.brief.start_small))), rw offset-is (by-abs t.floating b ts ns v (local_start t)))

  pub end-needs : Started t (again O) (again b) ts ns
  end-needs = record { valid = rw (to_z-of_z f) v; brief = s.brief; at_start = rw (to_z-of_z f) offset-is }

  module _ (U : ℤ) (u : mag U < 2 ^ 63) (ue : U ≡ again L -ℤ again O) (E : ℤ) (e : mag E < 2 ^ 63) (ee : E ≡ end_by (again b) ts ns t)
      (m : ℕ) (me : m ≡ marks_for t.busy t.allday t.floating) (I : ℤ) (i : mag I < 2 ^ 63) (ie : I ≡ since1970 id)
      (at : ℕ) (before after : List ℕ) where
    start_is : again U ≡ start_by b ts ns t
    unfolding start_by
    start_is = back U u ∙ (ue ∙ rw (local-is, offset-is))

    end_is : again E ≡ end_by b ts ns t
    end_is = back E e ∙ (rw (to_z-of_z f) at ee)

    pub row_is : after ≡ sets before at (row_bytes (record { id = again I; start = again U; end = again E; marks = m }))
        → after ≡ sets before at (row_bytes (occurrence_row b ts ns id t))
    unfolding occurrence_row
    row_is p = rw (back I i, ie, start_is, end_is, me) at p
