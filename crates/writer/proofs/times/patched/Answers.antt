-- `writer::times::patched` meets its contract.
use Rattle.writer.proofs.DetailsLaws.{patch-times}
use Rattle.writer.proofs.times.patched.Goals as goal

pub returns : goal.returns
returns c = patch-times _ _ _ _ c.patch-p.result _ (c.patch-p.ensures 13)
