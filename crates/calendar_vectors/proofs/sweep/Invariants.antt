-- `calendar_vectors::sweep` counts at most the days that it has come to.
use Rattle.std.proofs.Common.{◌≤◌}
use Rattle.calendar_vectors.proofs.sweep.Given as goal

abbrev pub invariant-loop-n : goal.invariant-loop-n
invariant-loop-n g l = l.same ≤ l.n
