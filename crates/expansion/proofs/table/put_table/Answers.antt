-- `expansion::table::put_table` meets its contract: nothing is written where it has no room, and each turn writes a chunk and asks for the next.
use Prim.Native.Nat.{◌+◌, ◌-◌, ◌*◌, ◌≤◌}
use mathlib.Core.Path.{sym, ◌∙◌}
use native.Mathlib.Omega.{arith}
use borrow.Author.Tests.{not-false, not-true}
use lib.ListN.{length}
use lib.Seq.{length-take-le}
use mir.Syntax.{w64}
use mir.Val.{to_z, of_z}
use mir.Facts.{to_z-of_z}
use Rattle.dates.specs.Inner.Dates.{dates_in}
use Rattle.window.specs.Inner.Lists.{list_in}
use Rattle.window.proofs.HandLaws.{chunk-early, handed-few}
use Rattle.writer.specs.Inner.Writes.{row_for}
use Rattle.writer.proofs.TableLaws.{ids-few, table-refused, trailer-fits, table-given}
use Rattle.writer.proofs.WritesLaws.{writes_again}
use Rattle.writer.proofs.WroteLaws.{wrote-start, wrote-next, wrote-asks, wrote-end}
use Rattle.expansion.proofs.PutLaws.{handed-here, span_rest, no_room, room_for}
use Rattle.expansion.proofs.table.put_table.Goals as goal

pub ids_from-chunk-requires : goal.ids_from-chunk-requires
ids_from-chunk-requires c = record { whole = c.requires.whole; span = c.requires.span; room = omega arith }

pub has_room-requires : goal.has_room-requires
has_room-requires c = let h = c.ids_from-chunk.ensures in
    record { whole = c.requires.whole; rest = span_rest c.args.window.from c.args.window.to _ c.requires.span h.low h.high; few = handed-few _ _ _ _ _ _ _ h }

pub returns-then-not-has_room : goal.returns-then-not-has_room
returns-then-not-has_room c = let h = c.ids_from-chunk.ensures in
    table-refused (row_for c.args.text.now c.args.kept.form c.args.ids.now c.args.places.now c.args.initial c.args.instants.now c.args.offsets.now)
    (dates_in c.args.kept.dates c.args.rows.now c.args.ids.now c.args.gone.now) c.args.window.from c.args.window.to c.args.buffer.now
    (no_room (dates_in c.args.kept.dates c.args.rows.now c.args.ids.now c.args.gone.now) c.args.window.from c.args.window.to _ _ _ _ h (length c.args.buffer.now)
    c.has_room.result c.has_room.ensures (not-true c.has_room.result c.if-not-has_room.true-raw))

pub loop-second-init : goal.loop-second-init
loop-second-init c = let h = c.ids_from-chunk.ensures in
    record { size = h.size; wrote = wrote-start _ _ _ _ _ _ c.requires.span.order; handed = handed-here _ _ _ _ _ _ _ h }

pub slice_bounds-room-end : goal.slice_bounds-room-end
slice_bounds-room-end c = c.loop-second.invariant.handed.few

pub slice_bounds-write_records-end : goal.slice_bounds-write_records-end
slice_bounds-write_records-end c = sym (length-take-le _ _ c.loop-second.invariant.handed.few)

pub write_records-place-requires : goal.write_records-place-requires
write_records-place-requires c =
    let enough : 28 * length (list_in (dates_in c.args.kept.dates c.args.rows.now c.args.ids.now c.args.gone.now) c.args.window.from (c.args.window.to - c.args.window.from)) + 12 ≤ length c.args.buffer.now =
    let h = c.ids_from-chunk.ensures in
    room_for (dates_in c.args.kept.dates c.args.rows.now c.args.ids.now c.args.gone.now) c.args.window.from c.args.window.to _ _ _ _ h (length c.args.buffer.now)
    c.has_room.result c.has_room.ensures (not-false c.has_room.result c.if-not-has_room.false-raw) in
    let i = c.loop-second.invariant in
    wrote-asks _ _ _ _ _ _ _ _ _ i.wrote _ _ _ _ i.handed _ _ _ _ _ _ _ _ (writes_again _ _ _ _ _ _ _ _ c.ranges.initial c.requires.writes) (chunk-early _ _ _ _ _ _ _ i.handed) (omega (arith, c.requires.span.high))
    (omega (arith, enough))

pub slice_bounds-ids_from-end-in-loop-second : goal.slice_bounds-ids_from-end-in-loop-second
slice_bounds-ids_from-end-in-loop-second c = sym c.loop-second.invariant.size

pub ids_from-chunk-requires-in-loop-second : goal.ids_from-chunk-requires-in-loop-second
ids_from-chunk-requires-in-loop-second c = let i = c.loop-second.invariant in
    record { whole = c.requires.whole; span = span_rest c.args.window.from c.args.window.to _ c.requires.span (omega (arith, i.wrote.low, i.handed.low)) i.handed.high; room = omega (arith, i.size) }

pub loop-second-smaller : goal.loop-second-smaller
loop-second-smaller c = let h = c.loop-second.invariant.handed in omega (arith, h.ahead c.loop-second-test.true, h.high)

pub loop-second-preserved : goal.loop-second-preserved
loop-second-preserved c = let i = c.loop-second.invariant in
    let h = c.ids_from-chunk-in-loop-second.ensures in
    record {
      size = h.size ∙ i.size;
      wrote = wrote-next _ _ _ _ _ _ _ _ _ i.wrote _ _ _ _ i.handed _ _ c.write_records-place.ensures;
      handed = handed-here _ _ _ _ _ _ _ h;
    }

pub put_trailer-requires : goal.put_trailer-requires
put_trailer-requires c =
    let enough : 28 * length (list_in (dates_in c.args.kept.dates c.args.rows.now c.args.ids.now c.args.gone.now) c.args.window.from (c.args.window.to - c.args.window.from)) + 12 ≤ length c.args.buffer.now =
    let h = c.ids_from-chunk.ensures in
    room_for (dates_in c.args.kept.dates c.args.rows.now c.args.ids.now c.args.gone.now) c.args.window.from c.args.window.to _ _ _ _ h (length c.args.buffer.now)
    c.has_room.result c.has_room.ensures (not-false c.has_room.result c.if-not-has_room.false-raw) in
    trailer-fits (row_for c.args.text.now c.args.kept.form c.args.ids.now c.args.places.now (to_z w64 (of_z w64 c.args.initial)) c.args.instants.now c.args.offsets.now)
    (dates_in c.args.kept.dates c.args.rows.now c.args.ids.now c.args.gone.now) c.args.window.from c.args.window.to _ _ _
    (wrote-end _ _ _ _ _ _ _ _ _ c.loop-second.invariant.wrote c.loop-second-test.false) c.requires.span enough

pub overflow_add-length : goal.overflow_add-length
overflow_add-length c = let w = wrote-end _ _ _ _ _ _ _ _ _ c.loop-second.invariant.wrote c.loop-second-test.false in
    omega (arith, w.place, ids-few (dates_in c.args.kept.dates c.args.rows.now c.args.ids.now c.args.gone.now) c.args.window.from c.args.window.to c.requires.span)

pub returns : goal.returns
returns c =
    let enough : 28 * length (list_in (dates_in c.args.kept.dates c.args.rows.now c.args.ids.now c.args.gone.now) c.args.window.from (c.args.window.to - c.args.window.from)) + 12 ≤ length c.args.buffer.now =
    let h = c.ids_from-chunk.ensures in
    room_for (dates_in c.args.kept.dates c.args.rows.now c.args.ids.now c.args.gone.now) c.args.window.from c.args.window.to _ _ _ _ h (length c.args.buffer.now)
    c.has_room.result c.has_room.ensures (not-false c.has_room.result c.if-not-has_room.false-raw) in
    let w = wrote-end _ _ _ _ _ _ _ _ _ c.loop-second.invariant.wrote c.loop-second-test.false in
    rw (to_z-of_z c.ranges.initial) at (table-given (row_for c.args.text.now c.args.kept.form c.args.ids.now c.args.places.now (to_z w64 (of_z w64 c.args.initial)) c.args.instants.now c.args.offsets.now)
    (dates_in c.args.kept.dates c.args.rows.now c.args.ids.now c.args.gone.now) c.args.window.from c.args.window.to c.args.buffer.now _ _ w enough _ c.put_trailer.ensures)
