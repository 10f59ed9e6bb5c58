use Rattle.std.proofs.Common.{eqb-true}
use Rattle.json_strict.proofs.Free.{free-none, free_more, free_all}
use Rattle.json_strict.proofs.slashes.surrogate_free.Goals as goal

pub loop-i-init : goal.loop-i-init
loop-i-init c = λ e. free-none _

pub loop-i-preserved : goal.loop-i-preserved
loop-i-preserved c = λ e. free_more _ _ c.loop-i.auto.i (c.loop-i.invariant (c.seen-any.ensures e).0) (c.seen-any.ensures e).1

pub returns : goal.returns
returns c = λ e. free_all _ _ c.loop-i-test.false (c.loop-i.invariant (eqb-true _ 0 e))
