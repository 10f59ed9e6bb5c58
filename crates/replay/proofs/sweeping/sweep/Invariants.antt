-- `replay::sweeping::sweep` meets its contract: the places before here are done, and `reach` is how far the spans reach.
use mathlib.Core.Path.{◌≡◌}
use mathlib.Core.List.{◌++◌}
use lib.ListN.{take, drop}
use Rattle.weeks.specs.Inner.Marks.{sweep}
use Rattle.replay.proofs.sweeping.sweep.Given as goal

abbrev pub invariant-loop-i : goal.invariant-loop-i
invariant-loop-i l = take l.i l.p ++ sweep l.reach l.i (drop l.i l.p) ≡ sweep 0 0 l.initial.p
