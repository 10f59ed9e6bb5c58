-- `zone::search::search` meets its contract: each turn is a step, and eleven are enough for 1,024 marks.
use Prim.Native.Nat.{◌-◌}
use lib.ListN.{length}
use Rattle.zone.specs.Places.{mark_at}
use Rattle.zone.proofs.SearchLaws.{Going}
use Rattle.zone.proofs.search.search.Given as goal

abbrev pub invariant-loop-low : goal.invariant-loop-low
invariant-loop-low l = Going (length l.instants) (mark_at l.initial' l.instants l.offsets) l.local l.low l.high l.steps

abbrev pub decreases-loop-low : goal.decreases-loop-low
decreases-loop-low l = l.high - l.low
