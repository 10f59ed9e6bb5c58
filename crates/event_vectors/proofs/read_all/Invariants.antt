use Rattle.std.proofs.Common.{length}
use Rattle.event_vectors.proofs.read_all.Given as goal

abbrev pub decreases-loop-end : goal.decreases-loop-end
decreases-loop-end g l = length l.rest
