-- `source::counting::count_ids` meets its contract: each turn counts the ids of one chunk.
use Prim.Native.Nat.{◌-◌}
use mathlib.Core.Path.{◌≡◌}
use lib.ListN.{length}
use Rattle.dates.specs.Inner.Dates.{dates_in}
use Rattle.source.proofs.CountLaws.{CountedTo}
use Rattle.source.proofs.counting.count_ids.Given as goal

abbrev pub invariant-loop-at : goal.invariant-loop-at
invariant-loop-at l = (length l.room ≡ 1280) × CountedTo (dates_in l.dates l.rows l.ids l.gone) l.from l.to l.at l.found

abbrev pub decreases-loop-at : goal.decreases-loop-at
decreases-loop-at l = l.to - l.at
