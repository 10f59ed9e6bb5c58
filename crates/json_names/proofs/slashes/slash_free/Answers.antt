use Rattle.json_names.proofs.Clean.{clean-none, clean-more, clean-known}
use Rattle.json_names.proofs.slashes.slash_free.Goals as goal

pub loop-b-init : goal.loop-b-init
loop-b-init c = λ e. clean-none _

pub loop-b-preserved : goal.loop-b-preserved
loop-b-preserved c = λ e. clean-more _ _ (c.loop-b.invariant (c.seen-any.ensures e).0) (c.seen-any.ensures e).1

pub returns : goal.returns
returns c = clean-known _ _ _ c.loop-b-test.false c.loop-b.invariant
