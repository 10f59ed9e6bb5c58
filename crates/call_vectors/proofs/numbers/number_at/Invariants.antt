use Rattle.std.proofs.Common.{◌<◌, ◌^◌}
use Rattle.call_vectors.proofs.numbers.number_at.Given as goal

abbrev pub invariant-loop-i : goal.invariant-loop-i
invariant-loop-i l = l.n < 2 ^ 60
