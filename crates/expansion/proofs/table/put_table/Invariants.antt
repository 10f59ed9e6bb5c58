-- `expansion::table::put_table` meets its contract: nothing is written where it has no room, and each turn writes a chunk and asks for the next.
use Prim.Native.Nat.{◌-◌}
use Rattle.dates.specs.Inner.Dates.{dates_in}
use Rattle.writer.specs.Inner.Writes.{row_for}
use Rattle.expansion.proofs.PutLaws.{PutAt}
use Rattle.expansion.proofs.table.put_table.Given as goal

abbrev pub invariant-loop-second : goal.invariant-loop-second
invariant-loop-second l = PutAt (row_for l.text l.form l.ids l.places l.initial' l.instants l.offsets) (dates_in l.dates l.rows l.ids l.gone) l.initial.second l.to l.initial.buffer l.second l.place l.buffer l.room l.chunk.count l.chunk.next

abbrev pub decreases-loop-second : goal.decreases-loop-second
decreases-loop-second l = l.to - l.second
