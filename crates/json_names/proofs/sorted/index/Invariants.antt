use Rattle.std.proofs.Common.{◌≡◌, length}
use Rattle.json_names.proofs.sorted.index.Given as goal

abbrev pub invariant-loop-i : goal.invariant-loop-i
invariant-loop-i l = length l.places ≡ length l.initial.places
