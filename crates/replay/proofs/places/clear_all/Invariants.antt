-- `replay::places::clear_all` meets its contract: the places passed are 0.
use mathlib.Core.Path.{◌≡◌}
use lib.IntN.{pos}
use lib.ListN.{take, replicate}
use Rattle.replay.proofs.places.clear_all.Given as goal

abbrev pub invariant-loop-z : goal.invariant-loop-z
invariant-loop-z l = take l.z-index l.p ≡ replicate l.z-index (pos 0)
