-- `writer::times::patch_of` meets its contract: the first override that names the occurrence decides.
use Rattle.writer.proofs.DetailsLaws.{Seen}
use Rattle.writer.proofs.times.patch_of.Given as goal

abbrev pub invariant-loop-i : goal.invariant-loop-i
invariant-loop-i l = Seen l.ids l.places l.x l.i
