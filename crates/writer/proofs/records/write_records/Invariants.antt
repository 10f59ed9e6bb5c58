-- `writer::records::write_records` meets its contract: each turn writes the record of one id and goes on after it.
use mathlib.Core.Path.{◌≡◌}
use lib.ListN.{length}
use Rattle.writer.specs.Inner.Writes.{row_for}
use Rattle.writer.proofs.RecordsLaws.{ChunkAt}
use Rattle.writer.proofs.records.write_records.Given as goal

abbrev pub invariant-loop-x : goal.invariant-loop-x
invariant-loop-x l = (length l.hints ≡ 2) × ChunkAt (row_for l.text l.form l.ids l.places l.initial' l.instants l.offsets) l.chunk l.initial.buffer l.at l.x-index l.place l.buffer
