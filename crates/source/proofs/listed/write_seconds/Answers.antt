-- `source::listed::write_seconds` meets its contract. The invariant: the seconds of the days so far stand in the slice.
use Rattle.source.proofs.ListedLaws.{seconds-start, seconds-one, seconds-end}
use Rattle.source.proofs.listed.write_seconds.Goals as goal

pub loop-k-init : goal.loop-k-init
loop-k-init c = seconds-start _ _ _

pub loop-k-preserved : goal.loop-k-preserved
loop-k-preserved c = rw c.from.ensures (seconds-one _ _ _ _ _ c.loop-k.invariant c.loop-k-test.true c.requires)

pub returns : goal.returns
returns c = seconds-end _ _ _ _ _ c.loop-k.invariant c.loop-k-test.false
